-- The ranges so far.
use Rattle.std.proofs.Common.{◌≡◌, map, take}
use Rattle.serde_json.specs.View.{view}
use Rattle.reh_picture_out.specs.Written.{range_data}
use Rattle.reh_picture_out.proofs.contents.range_values.Given as goal

abbrev pub invariant-loop-range : goal.invariant-loop-range
invariant-loop-range l = map view l.values.items ≡ map range_data (take l.range-index l.ranges)
