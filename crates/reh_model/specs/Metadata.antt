-- A ledger's metadata, in the words of BookKeeper's `LedgerMetadata` and of its page on the protocol.
use Rattle.std.specs.Prelude.{◌≡◌, ℕ, ◌+◌, ◌-◌, ◌<◌, ◌≤◌, Bool, true, false, not, if◌then◌else◌, ◌&&◌, ◌==◌, nat_eq}
use Rattle.std.specs.Prelude.{nat_lt, nat_le, List, [], ◌∷◌, ◌++◌, map, drop, length, Option, None, Some, unwrap_or}
use Rattle.std.specs.Prelude.{slice_get, slice_set, slice_index, All}
use Rattle.std.specs.List.{list_any, list_all, zip, IsDistinct}
use Rattle.std.specs.List.Sorted.{IsStrictlyIncreasing}
use Rattle.std.specs.Option.{ForSome, option_map, option_map_or, option_or}
use Rattle.reh_types.specs.declared.limits.TheConstants.{ENTRY_END, MAX_ENSEMBLE_SIZE, MAX_FRAGMENTS, MAX_VERSION}
use Rattle.reh_types.specs.declared.names.LedgerState.{LedgerState}
use Rattle.reh_types.specs.declared.names.LedgerState.TheVariants.{Open, InRecovery, Closed}
use Rattle.reh_model.specs.Striping.{write_set, striped_entries}

-- entries from the first one on, and the ensemble that they were written to (`getAllEnsembles`: the ensembles by
-- their first entries)
pub record Fragment : Type 0 where
  pub first : ℕ
  pub ensemble : List ℕ

-- the ensemble size, the write quorum and the ack quorum, and what changes over time
pub record Metadata : Type 0 where
  pub size : ℕ
  pub write_quorum : ℕ
  pub ack_quorum : ℕ
  pub state : LedgerState
  pub version : ℕ
  pub fragments : List Fragment

-- whether a writer may still append: OPEN, and no more IN_RECOVERY, which fences it off, or CLOSED
abbrev pub is_open : LedgerState → Bool
is_open Open = true
is_open InRecovery = false
is_open (Closed end) = false

-- whether a recovery has fenced the writer off, and is to close the ledger
abbrev pub is_in_recovery : LedgerState → Bool
is_in_recovery Open = false
is_in_recovery InRecovery = true
is_in_recovery (Closed end) = false

-- where the entries of a ledger end, if it is closed: one past its last entry id (`getLastEntryId`)
abbrev pub end_of_state : LedgerState → Option ℕ
end_of_state Open = None
end_of_state InRecovery = None
end_of_state (Closed end) = Some end

-- the first entry past a fragment: where the next one begins, or for the last one the end of a closed ledger
abbrev pub stop_of : Metadata → ℕ → Option ℕ
stop_of m f =
    if nat_lt f (length m.fragments)
    then option_or (option_map (λ next. next.first) (slice_get m.fragments (f + 1))) (end_of_state m.state) else None

-- the last fragment, to which a writer appends
abbrev pub last_of : List Fragment → Option Fragment
last_of fragments = slice_get fragments (length fragments - 1)

abbrev pub last_fragment : Metadata → Fragment
last_fragment m = unwrap_or (last_of m.fragments) (record { first = 0; ensemble = [] })

-- the members that an entry of the fragment was written to, in the order of their ranks
abbrev pub writes : Metadata → Fragment → ℕ → List ℕ
writes m fragment entry = map (λ i. slice_index fragment.ensemble i) (write_set entry m.size m.write_quorum)

-- the entries that the fragment of that number stripes onto the index, rising; none where there is no such fragment,
-- or it has no stop
abbrev pub stripe_of : Metadata → ℕ → ℕ → List ℕ
stripe_of m f i =
    option_map_or
    (λ fragment. option_map_or (λ stop. striped_entries fragment.first stop i m.size m.write_quorum) (stop_of m f) [])
    (slice_get m.fragments f) []

-- the fragment with another member at the index
abbrev pub with_member : Fragment → ℕ → ℕ → Fragment
with_member fragment i bookie = record fragment { ensemble = slice_set fragment.ensemble i bookie }

-- the metadata with another member at an index of a fragment: an ensemble change, which keeps the fragment's entries
abbrev pub with_member_at : Metadata → ℕ → ℕ → ℕ → Metadata
with_member_at m f i bookie = record m {
  fragments =
      option_map_or (λ fragment. slice_set m.fragments f (with_member fragment i bookie)) (slice_get m.fragments f)
      m.fragments;
}

-- the metadata with a new fragment from an entry on, whose ensemble is the last one with another member at the index:
-- an ensemble change of the writer's
abbrev pub with_fragment_at : Metadata → ℕ → ℕ → ℕ → Metadata
with_fragment_at m first i bookie =
    record m { fragments = m.fragments ++ record (with_member (last_fragment m) i bookie) { first = first } ∷ [] }

-- the metadata with another state
abbrev pub with_state : Metadata → LedgerState → Metadata
with_state m state = record m { state = state }

-- the metadata at the next version: each change raises it by 1
abbrev pub next_version : Metadata → Metadata
next_version m = record m { version = m.version + 1 }

-- Rules, as tests

-- the protocol's order of the quorums, 1 <= ack quorum <= write quorum <= ensemble size, and its limit
abbrev pub are_quorums : ℕ → ℕ → ℕ → Bool
are_quorums size write_quorum ack_quorum =
    nat_le 1 ack_quorum && nat_le ack_quorum write_quorum && nat_le write_quorum size && nat_le size MAX_ENSEMBLE_SIZE

-- each fragment begins before the next
abbrev pub are_rising : List Fragment → Bool
are_rising fragments =
    list_all (λ neighbours. nat_lt neighbours.0.first neighbours.1.first) (zip fragments (drop 1 fragments))

-- there is a fragment, the first begins at entry 0, and each begins before the next
abbrev pub rise_from_zero : List Fragment → Bool
rise_from_zero fragments =
    option_map_or (λ fragment. fragment.first == 0) (slice_get fragments 0) false && are_rising fragments

-- no bookie is named twice
abbrev pub are_different : List ℕ → Bool
are_different [] = true
are_different (b ∷ bookies) = not (list_any (λ other. other == b) bookies) && are_different bookies

-- an ensemble of this size: so many different bookies
abbrev pub is_ensemble : ℕ → List ℕ → Bool
is_ensemble size ensemble = (length ensemble == size) && are_different ensemble

-- a closed ledger ends at or after the last fragment's first entry
abbrev pub ends_within : LedgerState → List Fragment → Bool
ends_within state fragments =
    option_map_or (λ end. option_map_or (λ last. nat_le last.first end) (last_of fragments) true)
    (end_of_state state) true

-- Well-formed metadata: what the rules say, within the limits

pub record IsEnsemble (size : ℕ) (ensemble : List ℕ) : Type 0 where
  pub whole : length ensemble ≡ size
  pub different : IsDistinct nat_eq ensemble

pub record IsMetadata (m : Metadata) : Type 0 where
  pub some_acks : 1 ≤ m.ack_quorum
  pub acks_within : m.ack_quorum ≤ m.write_quorum
  pub writes_within : m.write_quorum ≤ m.size
  pub small : m.size ≤ MAX_ENSEMBLE_SIZE
  pub version : m.version ≤ MAX_VERSION
  pub some_fragment : 1 ≤ length m.fragments
  pub fragments : length m.fragments ≤ MAX_FRAGMENTS
  pub from_zero : ForSome (slice_get m.fragments 0) (λ fragment. fragment.first ≡ 0)
  pub rising : IsStrictlyIncreasing (map (λ fragment. fragment.first) m.fragments)
  pub firsts : All (λ fragment. fragment.first < ENTRY_END) m.fragments
  pub ensembles : All (λ fragment. IsEnsemble m.size fragment.ensemble) m.fragments
  pub end : ForSome (end_of_state m.state) (λ end. ((last_fragment m).first ≤ end) × (end ≤ ENTRY_END))
