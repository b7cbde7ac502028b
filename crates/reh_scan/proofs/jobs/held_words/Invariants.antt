-- The words of the members that are passed.
use Rattle.std.proofs.Common.{◌≡◌, ◌<◌, ◌-◌, ◌/◌, ℕ, [], length, slice_index, get_or}
use Rattle.reh_types.specs.declared.limits.TheConstants.{MAX_ENSEMBLE_SIZE}
use Rattle.reh_scan.proofs.jobs.held_words.Given as goal

abbrev pub invariant-loop-index : goal.invariant-loop-index
invariant-loop-index l = record {
  whole : length l.held ≡ MAX_ENSEMBLE_SIZE;
  filled : (index : ℕ) → index < l.index
      → slice_index l.held index
      ≡ slice_index (get_or l.reading.rows.items index []) (l.number - l.reading.first / 64);
}
