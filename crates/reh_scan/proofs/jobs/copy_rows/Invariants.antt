-- The words of the members that are passed.
use Rattle.std.proofs.Common.{◌≡◌, ◌<◌, ◌≤◌, ℕ, length, slice_index}
use Rattle.reh_model.specs.Cluster.{is_source}
use Rattle.reh_scan.specs.Jobs.{has_copy}
use Rattle.reh_scan.proofs.jobs.copy_rows.Given as goal

abbrev pub invariant-loop-bookie : goal.invariant-loop-bookie
invariant-loop-bookie l = record {
  size : length l.rows.items ≡ l.bookie-index;
  same : (index entry : ℕ) → index < l.bookie-index → l.fragment.first ≤ entry → entry < l.stop
      → has_copy l.fragment.first l.rows.items entry index
      ≡ is_source l.state l.ledger.id entry (slice_index l.fragment.ensemble index);
}
