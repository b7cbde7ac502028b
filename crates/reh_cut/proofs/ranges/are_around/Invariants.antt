-- It is in none of those that are passed.
use Rattle.std.proofs.Common.{◌≡◌, false, take}
use Rattle.std.specs.List.{list_any}
use Rattle.reh_cut.specs.Ranges.{is_within}
use Rattle.reh_cut.proofs.ranges.are_around.Given as goal

abbrev pub invariant-loop-range : goal.invariant-loop-range
invariant-loop-range l = list_any (is_within l.entry) (take l.range-index l.ranges) ≡ false
