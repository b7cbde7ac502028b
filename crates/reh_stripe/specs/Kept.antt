-- Masks as they are kept.
use Rattle.std.specs.Prelude.{◌≤◌}
use Rattle.reh_types.specs.declared.limits.TheConstants.{MAX_ENSEMBLE_SIZE}
use Rattle.reh_stripe.specs.Masks.{AreMasks}
use Rattle.reh_stripe.specs.declared.masks.Masks.TheInside.{Inside}

-- a mask for each index
pub record AreKept (a : Inside) : Type 0 where
  pub some : 1 ≤ a.quorum
  pub within : a.quorum ≤ a.size
  pub small : a.size ≤ MAX_ENSEMBLE_SIZE
  pub masks : AreMasks a.size a.quorum a.by_index
