-- Who takes the places of a plan: bookies with which the fewest write sets lack racks.
use Rattle.std.specs.Prelude.{ℕ, ◌-◌, ◌==◌, ◌≤◌, ◌&&◌, not, Bool, IsTrue, IsSomeAnd, List, [], ◌∷◌, length, slice_get}
use Rattle.std.specs.List.{list_any}
use Rattle.reh_types.specs.declared.moves.Event.{Event}
use Rattle.reh_types.specs.declared.moves.Event.TheVariants.{Roll, Swap}
use Rattle.reh_model.specs.Cluster.{Cluster, Ledger, ledger_at}
use Rattle.reh_model.specs.Metadata.{Fragment, Metadata}
use Rattle.reh_model.specs.Step.{after}
use Rattle.reh_plan.specs.Racks.{Racks, lacking}
use Rattle.reh_plan.specs.Workers.{can_work}

-- whether the bookie could take a place of the fragment: it may work, is registered, and is no member
abbrev pub could_take : (ℕ → Bool) → Cluster → Fragment → ℕ → Bool
could_take may s fragment bookie =
    can_work may s bookie && not (list_any (λ member. member == bookie) fragment.ensemble)

-- with the bookie at that index no more write sets of the fragment lack racks than with any other that could take the place
abbrev pub LacksLeast : (ℕ → Bool) → Racks → Cluster → Metadata → Fragment → ℕ → ℕ → Type 0
LacksLeast may r s m fragment i bookie =
    (other : ℕ) → IsTrue (could_take may s fragment other) → lacking r m fragment i bookie ≤ lacking r m fragment i other

-- there is a fragment of that number, and it is so of its place at the index
abbrev pub LacksLeastAt : (ℕ → Bool) → Racks → Cluster → Ledger → ℕ → ℕ → ℕ → Type 0
LacksLeastAt may r s g f i bookie =
    IsSomeAnd (slice_get g.metadata.fragments f) (λ fragment. LacksLeast may r s g.metadata fragment i bookie)

-- if a bookie takes a place by the event, it is so of that place; a writer puts its bookie into the last fragment's ensemble
abbrev pub IsWellTaken : (ℕ → Bool) → Racks → Cluster → Event → Type 0
IsWellTaken may r s (Swap w l f i v) = IsSomeAnd (ledger_at s l) (λ g. LacksLeastAt may r s g f i w)
IsWellTaken may r s (Roll l i b) =
    IsSomeAnd (ledger_at s l) (λ g. LacksLeastAt may r s g (length g.metadata.fragments - 1) i b)
IsWellTaken may r s other = Unit {0}

-- it is so of each of these events, in the state that those before it make of s
abbrev pub AreWellTaken : (ℕ → Bool) → Racks → Cluster → List Event → Type 0
AreWellTaken may r s [] = Unit {0}
AreWellTaken may r s (event ∷ events) = IsWellTaken may r s event × AreWellTaken may r (after s event) events
