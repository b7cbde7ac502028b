-- The parts of the ranges that are passed.
use Rattle.std.proofs.Common.{◌≡◌, take}
use Rattle.reh_window.specs.Windows.{ranges_in}
use Rattle.reh_window.proofs.contents.ranges_in.Given as goal

abbrev pub invariant-loop-range : goal.invariant-loop-range
invariant-loop-range l = l.parts.items ≡ ranges_in l.span (take l.range-index l.ranges)
