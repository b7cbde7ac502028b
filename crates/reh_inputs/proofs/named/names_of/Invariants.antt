-- The names that are passed.
use Rattle.std.proofs.Common.{◌≡◌, take}
use Rattle.reh_inputs.proofs.named.names_of.Given as goal

abbrev pub invariant-loop-number : goal.invariant-loop-number
invariant-loop-number l = l.list ≡ take l.number l.names
