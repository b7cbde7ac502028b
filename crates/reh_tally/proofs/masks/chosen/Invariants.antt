-- The members that are passed, and those of the rest.
use Rattle.std.proofs.Common.{◌≡◌, ◌++◌, drop}
use Rattle.reh_tally.specs.Masks.{chosen}
use Rattle.reh_tally.proofs.masks.chosen.Given as goal

abbrev pub invariant-loop-member : goal.invariant-loop-member
invariant-loop-member l = l.names.items ++ chosen l.rest (drop l.member-index l.members) ≡ chosen l.mask l.members
