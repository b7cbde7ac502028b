-- The entries that the bookies so far hold.
use Rattle.std.proofs.Common.{◌≡◌, ◌*◌, ◌^◌, ◌≤◌}
use Rattle.std.specs.Prelude.{sum_by}
use Rattle.std.specs.List.{range_with_len}
use Rattle.reh_model.specs.Contents.{count_held}
use Rattle.reh_picture.proofs.counts.count_entries.Given as goal

abbrev pub invariant-loop-i : goal.invariant-loop-i
invariant-loop-i l = record {
  sum : l.entries ≡ sum_by (count_held l.state.parts.held) (range_with_len 0 l.i);
  small : l.entries ≤ l.i * 2 ^ 64;
}
