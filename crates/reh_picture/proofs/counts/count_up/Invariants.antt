-- The bookies so far that are registered.
use Rattle.std.proofs.Common.{◌≡◌, ◌≤◌}
use Rattle.std.specs.Prelude.{count_by}
use Rattle.std.specs.List.{range_with_len}
use Rattle.reh_model.specs.Cluster.{is_up}
use Rattle.reh_picture.proofs.counts.count_up.Given as goal

abbrev pub invariant-loop-i : goal.invariant-loop-i
invariant-loop-i l = record {
  count : l.up ≡ count_by (is_up l.state) (range_with_len 0 l.i);
  few : l.up ≤ l.i;
}
