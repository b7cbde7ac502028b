-- Those that are passed are.
use Rattle.std.proofs.Common.{◌≡◌, take, true}
use Rattle.std.specs.List.{list_all}
use Rattle.reh_cut.specs.Cuts.{is_below}
use Rattle.reh_cut.proofs.checks.are_below.Given as goal

abbrev pub invariant-loop-range : goal.invariant-loop-range
invariant-loop-range l = list_all (is_below l.bound) (take l.range-index l.ranges) ≡ true
