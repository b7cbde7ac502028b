-- What two changes of scalars make of each other.
use Rattle.std.proofs.Common.{◌≡◌, ◌≢◌, refl}
use Rattle.reh_types.specs.declared.scalars.Scalars.{Scalars}
use Rattle.reh_types.specs.declared.scalars.Scalar.{Scalar}
use Rattle.reh_types.specs.declared.scalars.Scalar.TheVariants.{Clock, Enabled}
use Rattle.reh_types.specs.Scalars.{number_of, scalar_at, with_scalar}

pub number_of-scalar_at : (s : Scalars) (c : Scalar) → number_of (scalar_at s c) ≡ number_of c
number_of-scalar_at s (Clock clock) = refl
number_of-scalar_at s (Enabled enabled) = refl

-- what stood there takes the change back
pub with_scalar-back : (s : Scalars) (c : Scalar) → with_scalar (with_scalar s c) (scalar_at s c) ≡ s
with_scalar-back s (Clock clock) = refl
with_scalar-back s (Enabled enabled) = refl

-- one that was put stands at its place
pub scalar_at-here : (s : Scalars) (c d : Scalar) → number_of c ≡ number_of d → scalar_at (with_scalar s c) d ≡ c
scalar_at-here s (Clock clock) (Clock other) same = refl
scalar_at-here s (Enabled enabled) (Enabled other) same = refl
scalar_at-here s (Clock clock) (Enabled other) same = cc
scalar_at-here s (Enabled enabled) (Clock other) same = cc

-- and leaves what stands at the others
pub scalar_at-apart : (s : Scalars) (c d : Scalar) → number_of c ≢ number_of d → scalar_at (with_scalar s c) d
    ≡ scalar_at s d
scalar_at-apart s (Clock clock) (Clock other) apart = absurd (apart refl)
scalar_at-apart s (Enabled enabled) (Enabled other) apart = absurd (apart refl)
scalar_at-apart s (Clock clock) (Enabled other) apart = refl
scalar_at-apart s (Enabled enabled) (Clock other) apart = refl

-- changes of different ones commute
pub with_scalar-comm : (s : Scalars) (c d : Scalar) → number_of c ≢ number_of d → with_scalar (with_scalar s c) d
    ≡ with_scalar (with_scalar s d) c
with_scalar-comm s (Clock clock) (Clock other) apart = absurd (apart refl)
with_scalar-comm s (Enabled enabled) (Enabled other) apart = absurd (apart refl)
with_scalar-comm s (Clock clock) (Enabled other) apart = refl
with_scalar-comm s (Enabled enabled) (Clock other) apart = refl
