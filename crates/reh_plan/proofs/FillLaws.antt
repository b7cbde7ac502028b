-- Who takes a place, and what is noted then.
use Rattle.std.proofs.Common.{◌≡◌, ◌++◌, ◌∷◌, [], ◌⊎◌, ℕ, inl, inr, Option, None, Some, subst, sym}
use Rattle.std.specs.Prelude.{IfSome, IsSomeAnd, OnOk, Result, Ok, Err, slice_get}
use Rattle.reh_types.specs.declared.moves.Event.TheVariants.{Roll, Swap}
use Rattle.reh_model.specs.Cluster.{Cluster, Ledger}
use Rattle.reh_plan.specs.Choices.{IsChoice, IsFirst}
use Rattle.reh_plan.specs.Fills.{Fills, IsChosen, IsSame, Rolls}
use Rattle.reh_plan.specs.Plans.{Draft, IsMade}
use Rattle.reh_plan.specs.Workers.{Workers, last_in, share_in, share_to_roll, with_load}

pub chosen_at : (w : Workers) (s : Cluster) (g : Ledger) (place f i : ℕ) (choice : Option ℕ)
    → slice_get s.parts.ledgers place ≡ Some g → IsChoice w s g f i choice → IfSome choice (IsChosen w s place f i)
chosen_at w s g place f i None at choice = tt
chosen_at w s g place f i (Some bookie) at choice =
    subst (λ (o : Option Ledger). IsSomeAnd o (λ h. IsFirst w s h f i bookie)) (sym at) choice

pub filled : {A B : Type 0} (w noted : Workers) (d p n : Draft) (place ledger f i worker version : ℕ) (r : Result A B)
    → IsChosen w d.state place f i worker → noted ≡ with_load w worker (share_in d.state place f)
    → OnOk r (IsMade p (Swap worker ledger f i version) n) → OnOk r (Fills w d place ledger f i noted n)
filled w noted d p n place ledger f i worker version (Ok done) chosen loads made = record {
  worker = worker;
  chosen = chosen;
  loads = loads;
  before = p.events;
  version = version;
  taken = made.events;
}
filled w noted d p n place ledger f i worker version (Err stop) chosen loads made = tt

pub rolled : {A B : Type 0} (w noted : Workers) (d n : Draft) (place ledger i bookie : ℕ) (r : Result A B)
    → IsChosen w d.state place (last_in d.state place) i bookie
    → noted ≡ with_load w bookie (share_to_roll d.state place) → OnOk r (IsMade d (Roll ledger i bookie) n)
    → OnOk r (IsSame w d noted n ⊎ Rolls w d place ledger i noted n)
rolled w noted d n place ledger i bookie (Ok done) chosen loads made = inr record {
  bookie = bookie;
  chosen = chosen;
  loads = loads;
  taken = made.events;
}
rolled w noted d n place ledger i bookie (Err stop) chosen loads made = tt
