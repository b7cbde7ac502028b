-- Masks of four words as they are kept.
use Rattle.std.specs.Prelude.{◌≡◌, ℕ, ◌+◌, ◌*◌, ◌<◌, ◌≤◌, slice_index}
use Rattle.reh_types.specs.declared.limits.TheConstants.{MAX_ENSEMBLE_SIZE}
use Rattle.reh_model.specs.Striping.{is_striped}
use Rattle.reh_stripe.specs.Words.{has_bit}
use Rattle.reh_stripe.specs.declared.four_masks.FourMasks.TheInside.{Inside}

-- four words for each index, with a bit for each entry that it carries
pub record AreKept (a : Inside) : Type 0 where
  pub some : 1 ≤ a.quorum
  pub within : a.quorum ≤ a.size
  pub small : a.size ≤ MAX_ENSEMBLE_SIZE
  pub masks : (index k i : ℕ) → index < a.size → k < 4 → i < 64
      → has_bit (slice_index a.by_index (4 * index + k)) i ≡ is_striped (64 * k + i) index a.size a.quorum
