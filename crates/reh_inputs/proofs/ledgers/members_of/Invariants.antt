-- The numbers of the members that are passed.
use Rattle.std.proofs.Common.{◌≡◌, map, take}
use Rattle.reh_inputs.specs.Ledgers.{number_in}
use Rattle.reh_inputs.proofs.ledgers.members_of.Given as goal

abbrev pub invariant-loop-bookie : goal.invariant-loop-bookie
invariant-loop-bookie l = l.members.items ≡ map (number_in l.numbers) (take l.bookie-index l.ensemble)
