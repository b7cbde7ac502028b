-- The masks of the indexes that are passed.
use Rattle.std.proofs.Common.{◌≡◌, ◌<◌, ℕ, length, slice_index}
use Rattle.reh_types.specs.declared.limits.TheConstants.{MAX_ENSEMBLE_SIZE}
use Rattle.reh_stripe.specs.Masks.{IsMask}
use Rattle.reh_stripe.proofs.masks.Masks.new.Given as goal

abbrev pub invariant-loop-index : goal.invariant-loop-index
invariant-loop-index l = record {
  whole : length l.by_index ≡ MAX_ENSEMBLE_SIZE;
  filled : (index : ℕ) → index < l.index → IsMask l.size l.quorum index (slice_index l.by_index index);
}
