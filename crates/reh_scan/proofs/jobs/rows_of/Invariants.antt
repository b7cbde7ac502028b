-- The rows of the members that are passed.
use Rattle.std.proofs.Common.{◌≡◌, ◌<◌, ℕ, [], length, get_or}
use Rattle.reh_types.specs.declared.limits.TheConstants.{MAX_ENSEMBLE_SIZE}
use Rattle.reh_held.specs.Rows.{is_set}
use Rattle.reh_scan.specs.Sources.{is_set_at}
use Rattle.reh_scan.proofs.jobs.rows_of.Given as goal

abbrev pub invariant-loop-index : goal.invariant-loop-index
invariant-loop-index l = record {
  whole : length l.rows ≡ MAX_ENSEMBLE_SIZE;
  filled : (index entry : ℕ) → index < l.index
      → is_set_at l.rows entry index ≡ is_set (get_or l.reading.rows.items index []) entry;
}
