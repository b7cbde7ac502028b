-- The fragments that are passed.
use Rattle.std.proofs.Common.{◌≡◌, map}
use Rattle.reh_census.specs.Striping.{range}
use Rattle.reh_inputs.specs.Ledgers.{fragment_of}
use Rattle.reh_inputs.proofs.ledgers.fragments_of.Given as goal

abbrev pub invariant-loop-fragment : goal.invariant-loop-fragment
invariant-loop-fragment l = l.fragments.items ≡ map (fragment_of l.numbers l.end l.metadata) (range 0 l.fragment)
