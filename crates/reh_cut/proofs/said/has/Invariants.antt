-- It is in none of those that are passed.
use Rattle.std.proofs.Common.{◌≡◌, false, take}
use Rattle.std.specs.List.{list_any}
use Rattle.reh_census.specs.Ledgers.{is_within}
use Rattle.reh_cut.proofs.said.has.Given as goal

abbrev pub invariant-loop-range : goal.invariant-loop-range
invariant-loop-range l = list_any (is_within l.entry) (take l.range-index l.ranges) ≡ false
