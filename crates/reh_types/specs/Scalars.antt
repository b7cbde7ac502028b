-- The parts of a cluster that are single values, as places.
use Rattle.std.specs.Prelude.{ℕ, Bool}
use Rattle.reh_types.specs.declared.scalars.Scalars.{Scalars}
use Rattle.reh_types.specs.declared.scalars.Scalar.{Scalar}
use Rattle.reh_types.specs.declared.scalars.Scalar.TheVariants.{Clock, Enabled}

-- as a rehearsal begins, with AutoRecovery enabled or not
abbrev pub first_scalars : Bool → Scalars
first_scalars enabled = record { clock = 0; enabled = enabled }

-- each has a number, by which its place goes
abbrev pub number_of : Scalar → ℕ
number_of (Clock clock) = 0
number_of (Enabled enabled) = 1

-- what stands at the place of that one
abbrev pub scalar_at : Scalars → Scalar → Scalar
scalar_at s (Clock clock) = Clock s.clock
scalar_at s (Enabled enabled) = Enabled s.enabled

-- the scalars with that one
abbrev pub with_scalar : Scalars → Scalar → Scalars
with_scalar s (Clock clock) = record s { clock = clock }
with_scalar s (Enabled enabled) = record s { enabled = enabled }
