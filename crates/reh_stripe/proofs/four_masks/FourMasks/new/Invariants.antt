-- The masks of the indexes that are passed.
use Rattle.std.proofs.Common.{◌≡◌, ◌+◌, ◌*◌, ◌<◌, ℕ, length, slice_index}
use Rattle.reh_model.specs.Striping.{is_striped}
use Rattle.reh_stripe.specs.Words.{has_bit}
use Rattle.reh_stripe.specs.declared.four_masks.TheConstants.{LENGTH}
use Rattle.reh_stripe.proofs.four_masks.FourMasks.new.Given as goal

abbrev pub invariant-loop-index : goal.invariant-loop-index
invariant-loop-index l = record {
  whole : length l.by_index ≡ LENGTH;
  filled : (index k i : ℕ) → index < l.index → k < 4 → i < 64
      → has_bit (slice_index l.by_index (4 * index + k)) i ≡ is_striped (64 * k + i) index l.size l.quorum;
}
