-- Who takes a place, and that it is noted what is given.
use Rattle.std.specs.Prelude.{◌≡◌, ℕ, IsSomeAnd, List, [], ◌∷◌, ◌++◌, slice_get}
use Rattle.reh_types.specs.declared.moves.Event.{Event}
use Rattle.reh_types.specs.declared.moves.Event.TheVariants.{Roll, Swap}
use Rattle.reh_model.specs.Cluster.{Cluster}
use Rattle.reh_plan.specs.Choices.{IsFirst}
use Rattle.reh_plan.specs.Plans.{Draft}
use Rattle.reh_plan.specs.Workers.{Workers, last_in, share_in, share_to_roll, with_load}

-- of the bookies that could take the place at that index of the fragment, of the ledger at that place of the picture, this one is
-- the first
abbrev pub IsChosen : Workers → Cluster → ℕ → ℕ → ℕ → ℕ → Type 0
IsChosen workers s place f i bookie = IsSomeAnd (slice_get s.parts.ledgers place) (λ g. IsFirst workers s g f i bookie)

-- nothing was done or noted
abbrev pub IsSame : Workers → Draft → Workers → Draft → Type 0
IsSame workers d noted n = (noted ≡ workers) × (n ≡ d)

-- the plan goes on from d to n by commands of which the last is the swap by which the bookie that is chosen in d takes the place;
-- it is noted that it holds its share of the fragment's entries more
pub record Fills (workers : Workers) (d : Draft) (place ledger f i : ℕ) (noted : Workers) (n : Draft) : Type 0 where
  pub worker : ℕ
  pub chosen : IsChosen workers d.state place f i worker
  pub loads : noted ≡ with_load workers worker (share_in d.state place f)
  pub before : List Event
  pub version : ℕ
  pub taken : n.events ≡ before ++ Swap worker ledger f i version ∷ []

-- the same of the roll by which it comes into the last ensemble
pub record Rolls (workers : Workers) (d : Draft) (place ledger i : ℕ) (noted : Workers) (n : Draft) : Type 0 where
  pub bookie : ℕ
  pub chosen : IsChosen workers d.state place (last_in d.state place) i bookie
  pub loads : noted ≡ with_load workers bookie (share_to_roll d.state place)
  pub taken : n.events ≡ d.events ++ Roll ledger i bookie ∷ []
