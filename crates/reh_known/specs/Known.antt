-- What a question after a script goes by. The script takes what nothing tells to be nothing, so its end can tell less than the
-- cluster has: where it would do so as said below, no question is asked.
use Rattle.std.specs.Prelude.{◌≡◌, ℕ, ◌<◌, ◌⊎◌, All, Bool, true, false, not, ◌&&◌, ◌||◌, nat_eq, List, length, slice_get, is_none}
use Rattle.std.specs.List.{list_any}
use Rattle.std.specs.Option.{ForSome, IsSomeAnd, option_map_or}
use Rattle.reh_types.specs.declared.moves.Event.{Event}
use Rattle.reh_types.specs.declared.moves.Event.TheVariants.{Roll, Seal}
use Rattle.reh_types.specs.declared.names.LedgerState.{LedgerState}
use Rattle.reh_types.specs.declared.names.LedgerState.TheVariants.{Open, InRecovery, Closed}
use Rattle.reh_model.specs.Cluster.{Cluster, Ledger, holds, ledger_at}
use Rattle.reh_model.specs.Contents.{count_held}
use Rattle.reh_model.specs.Metadata.{Metadata, last_fragment, stop_of, stripe_of}
use Rattle.reh_picture.specs.declared.listings.Listed.{Listed}
use Rattle.reh_picture.specs.Contents.{Holding}
use Rattle.reh_inputs.specs.Empties.{EmptyHoldNothing, is_shown_empty}
use Rattle.reh_inputs.specs.Faults.{IsHeldBy}
use Rattle.reh_inputs.specs.declared.inputs.Input.TheVariants.{Picture}
use Rattle.reh_known.specs.declared.doubts.Doubt.{Doubt}
use Rattle.reh_known.specs.declared.doubts.Doubt.TheVariants.{ShownEmpty, TookCopies, OtherEnd, Refilled}
use Rattle.reh_known.specs.declared.doubts.Doubted.{Doubted}

-- What the picture told with which the rehearsal began

-- whether a content tells what its bookie holds: an assumed list doesn't if it is empty, or where nothing may be assumed
abbrev pub tells : Bool → Holding → Bool
tells may_assume h = not h.is_assumed || (may_assume && not (nat_eq (length h.ranges) 0))

-- whether one of these contents tells what the bookie holds of the ledger
abbrev pub is_said : List Holding → Bool → ℕ → ℕ → Bool
is_said told may_assume bookie ledger =
    list_any (λ h. (nat_eq h.bookie bookie && nat_eq h.ledger ledger) && tells may_assume h) told

-- whether the picture told it: by a content, also an assumed one that isn't empty, or as the bookie had come back without its disk
abbrev pub was_told : Listed → ℕ → ℕ → Bool
was_told began bookie ledger =
    is_shown_empty began bookie || is_said began.listing.holdings.items true bookie ledger

-- whether it told what the bookie holds of the end of the ledger, too. One that came back without its disk may have taken
-- entries there since.
abbrev pub was_told_end : Listed → ℕ → ℕ → Bool
was_told_end began bookie ledger =
    is_said began.listing.holdings.items false bookie ledger && not (is_shown_empty began bookie)

-- Copies that a bookie took

-- whether the bookie is the member at that index of that fragment
abbrev pub is_member_at : Metadata → ℕ → ℕ → ℕ → Bool
is_member_at m f i bookie =
    option_map_or (λ fragment. option_map_or (nat_eq bookie) (slice_get fragment.ensemble i) false)
    (slice_get m.fragments f) false

-- whether the bookie lacks an entry that is striped onto that index, or the fragment has no stop, so that it may lack one
abbrev pub lacks_at : Cluster → ℕ → Ledger → ℕ → ℕ → Bool
lacks_at s bookie g f i =
    is_none (stop_of g.metadata f) || list_any (λ e. not (holds s bookie g.id e)) (stripe_of g.metadata f i)

-- the bookie is in fragments with a stop alone, and has all their entries that are striped onto it
abbrev pub HasShare : Cluster → ℕ → Ledger → Type 0
HasShare s bookie g =
    (f i : ℕ) → f < length g.metadata.fragments → i < g.metadata.size
    → (is_member_at g.metadata f i bookie && lacks_at s bookie g f i) ≡ false

-- what the bookie held of the ledger was told, or it has taken nothing, or it has its share
abbrev pub IsTold : Cluster → Listed → Ledger → ℕ → Type 0
IsTold s began g bookie =
    (was_told began bookie g.id ≡ true) ⊎ (HasShare s bookie g ⊎ ((e : ℕ) → holds s bookie g.id e ≡ false))

-- Ends of ledgers

abbrev pub is_closed : LedgerState → Bool
is_closed Open = false
is_closed InRecovery = false
is_closed (Closed end) = true

-- whether the ledger isn't closed, and the bookie is in its last ensemble
abbrev pub is_at_end : Metadata → ℕ → Bool
is_at_end m bookie = not (is_closed m.state) && list_any (nat_eq bookie) (last_fragment m).ensemble

-- whether an event changes the end of the ledger: it begins a fragment there, changes the last ensemble, or closes the ledger
abbrev pub changes_end : ℕ → Event → Bool
changes_end ledger (Roll l i b) = nat_eq l ledger
changes_end ledger (Seal w l) = nat_eq l ledger
changes_end ledger event = false

-- whether it was changed, by an event that isn't undone
abbrev pub is_end_changed : List Event → ℕ → Bool
is_end_changed done ledger = list_any (changes_end ledger) done

-- whether it was changed, the bookie was at the end before, and wasn't told what it held of it: where a fragment or the ledger
-- ends depends on that
abbrev pub is_end_guessed : List Event → Listed → Ledger → ℕ → Bool
is_end_guessed done began was bookie =
    (is_at_end was.metadata bookie && not (was_told_end began bookie was.id)) && is_end_changed done was.id

-- whether the bookie came back without its disk, was at the end, and holds an entry of any ledger now: it isn't marked any more, so
-- a recovery of the ledger would count on it
abbrev pub is_refilled : Cluster → Listed → Ledger → ℕ → Bool
is_refilled s began was bookie =
    (is_shown_empty began bookie && not (nat_eq (count_held s.parts.held bookie) 0)) && is_at_end was.metadata bookie

-- All

-- nothing of the above is in doubt of the bookie and the ledger, as it was and as it is now
pub record IsKnown (s : Cluster) (done : List Event) (began : Listed) (was now : Ledger) (bookie : ℕ) : Type 0 where
  pub copies : IsTold s began now bookie
  pub ends : is_end_guessed done began was bookie ≡ false
  pub recoveries : is_refilled s began was bookie ≡ false

-- so it is of each bookie
abbrev pub AreKnownOf : Cluster → List Event → Listed → Ledger → Ledger → Type 0
AreKnownOf s done began was now = (bookie : ℕ) → bookie < length s.names → IsKnown s done began was now bookie

-- and of each ledger of the picture, as it is in the state
abbrev pub IsKnownSince : Cluster → List Event → Listed → Ledger → Type 0
IsKnownSince s done began was = ForSome (ledger_at s was.id) (AreKnownOf s done began was)

-- and no bookie was shown as empty and as one that holds entries
pub record AreKnown (s : Cluster) (done : List Event) (began : Listed) : Type 0 where
  pub empties : EmptyHoldNothing began
  pub ledgers : All (IsKnownSince s done began) began.listing.ledgers.items

-- Why no question is asked

-- what a reason says is so of the bookie and the ledger, as it was and as it is now
abbrev pub IsDoubtOf : Cluster → List Event → Listed → Ledger → Ledger → ℕ → Doubt → Type 0
IsDoubtOf s done began was now bookie ShownEmpty = ⊥
IsDoubtOf s done began was now bookie TookCopies = was_told began bookie now.id ≡ false
IsDoubtOf s done began was now bookie OtherEnd = is_end_guessed done began was bookie ≡ true
IsDoubtOf s done began was now bookie Refilled = is_refilled s began was bookie ≡ true

-- and of a ledger of the picture, as it is in the state
abbrev pub IsDoubtSince : Cluster → List Event → Listed → Doubted → Ledger → Type 0
IsDoubtSince s done began found was =
    (was.id ≡ found.ledger)
    × IsSomeAnd (ledger_at s was.id) (λ now. IsDoubtOf s done began was now found.bookie found.doubt)

-- one of the picture's ledgers, or a content of a bookie that it shows as empty
abbrev pub IsDoubtedIn : Cluster → List Event → Listed → Doubted → Doubt → Type 0
IsDoubtedIn s done began found ShownEmpty =
    (bookie : ℕ) × IsHeldBy (Picture began) (record { bookie = bookie; ledger = found.ledger })
IsDoubtedIn s done began found doubt =
    (k : ℕ) × IsSomeAnd (slice_get began.listing.ledgers.items k) (IsDoubtSince s done began found)

abbrev pub IsDoubted : Cluster → List Event → Listed → Doubted → Type 0
IsDoubted s done began found = IsDoubtedIn s done began found found.doubt
