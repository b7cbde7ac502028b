-- Those that are passed.
use Rattle.std.proofs.Common.{All, take}
use Rattle.reh_census.specs.Ledgers.{IsFragment}
use Rattle.reh_census.proofs.ledgers.are_fragments.Given as goal

abbrev pub invariant-loop-fragment : goal.invariant-loop-fragment
invariant-loop-fragment l = All (IsFragment l.size) (take l.fragment-index l.fragments)
