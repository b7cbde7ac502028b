-- The bookies so far.
use Rattle.std.proofs.Common.{◌≡◌, map}
use Rattle.std.specs.List.{range_with_len}
use Rattle.serde_json.specs.View.{view}
use Rattle.reh_picture_out.specs.Written.{bookie_data_at}
use Rattle.reh_picture_out.proofs.bookies.bookie_values.Given as goal

abbrev pub invariant-loop-bookie : goal.invariant-loop-bookie
invariant-loop-bookie l = map view l.values.items ≡ map (bookie_data_at l.state l.marks) (range_with_len 0 l.bookie)
