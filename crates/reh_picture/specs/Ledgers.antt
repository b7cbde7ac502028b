-- The ledgers of a picture.
use Rattle.std.specs.Prelude.{ℕ, zero, suc, ◌+◌, ℤ, pos, negsuc, Bool, not, ◌||◌, nat_eq, nat_le, List, [], ◌∷◌, map}
use Rattle.std.specs.Prelude.{codes, if◌then◌else◌, Option, None, Some, unwrap_or, Result}
use Rattle.std.specs.List.{list_any}
use Rattle.std.specs.Option.{is_some, ok_or, option_map, option_and_then}
use Rattle.std.specs.Result.{result_err, result_ok, result_unwrap_or}
use Rattle.std.specs.Str.{bytes_eq}
use Rattle.serde_json.specs.Data.{Data}
use Rattle.reh_types.specs.declared.limits.TheConstants.{MAX_ENTRY_ID, MAX_FRAGMENTS, MAX_LEDGERS, MAX_LEDGER_ID}
use Rattle.reh_types.specs.declared.limits.TheConstants.{MAX_VERSION}
use Rattle.serde_json.specs.Find.{as_str}
use Rattle.reh_types.specs.declared.names.LedgerState.{LedgerState}
use Rattle.reh_types.specs.declared.names.LedgerState.TheVariants.{Open, InRecovery, Closed}
use Rattle.reh_model.specs.Metadata.{Metadata, Fragment}
use Rattle.reh_model.specs.Contents.{Contents, greatest_held}
use Rattle.reh_model.specs.Cluster.{Ledger}
use Rattle.reh_meta.specs.Faults.{fault_of}
use Rattle.reh_meta.specs.declared.faults.MetaFault.{MetaFault}
use Rattle.reh_meta.specs.declared.faults.MetaFault.TheVariants as meta
use Rattle.reh_fields.specs.declared.fields.Field.TheVariants as field
use Rattle.reh_fields.specs.declared.faults.LedgerFlaw.TheVariants as flaw
use Rattle.reh_fields.specs.declared.faults.Repeated.TheVariants as repeated
use Rattle.reh_fields.specs.declared.faults.PictureFault.{PictureFault}
use Rattle.reh_fields.specs.declared.faults.PictureFault.TheVariants.{WrongKind, Twice, Limit, BadLedger, NoMemory}
use Rattle.reh_model.specs.Checks.{first_reason, reason_unless}
use Rattle.reh_fields.specs.Members.{is_object, number_in, text_in, list_in, integer_in, number_of, text_of, list_of}
use Rattle.reh_fields.specs.Members.{number_fault, list_fault}
use Rattle.reh_fields.specs.Names.{bookie_in, known_fault}
use Rattle.reh_picture.specs.declared.places.Place.{Place}
use Rattle.reh_picture.specs.declared.places.Place.TheVariants as place
use Rattle.reh_picture.specs.Places.{fault_at, fault_along}
use Rattle.reh_picture.specs.Contents.{words_to}

-- Fragments

-- a member of an ensemble is a text
abbrev pub member_name_in : Data → Result (List ℕ) PictureFault
member_name_in d = ok_or (as_str d) (WrongKind field.Ensemble)

abbrev pub member_name : Data → List ℕ
member_name d = result_unwrap_or (member_name_in d) []

-- the first fault of a member, in a picture whose bookies have these names
abbrev pub member_fault : List (List ℕ) → Data → Option PictureFault
member_fault names d = first_reason (result_err (member_name_in d) ∷ known_fault names (member_name d) ∷ [])

-- the first fault of an ensemble's members
unfoldable pub members_fault : List (List ℕ) → ℕ → ℕ → List Data → Option (PictureFault × Place)
members_fault names ledger fragment members =
    fault_along (λ i _ d. fault_at (place.Member ledger fragment i) (member_fault names d)) 0 [] members

-- what is wrong with a fragment before the members of its ensemble
abbrev pub before_members : Data → Option PictureFault
before_members d =
    first_reason (
    reason_unless (is_object d) (WrongKind field.Fragment)
    ∷ number_fault d field.FirstEntry 0 MAX_ENTRY_ID
    ∷ result_err (list_in d field.Ensemble)
    ∷ [])

-- the first fault of the fragment of this number
abbrev pub fragment_fault : List (List ℕ) → ℕ → ℕ → Data → Option (PictureFault × Place)
fragment_fault names ledger fragment d =
    first_reason (
    fault_at (place.Fragment ledger fragment) (before_members d)
    ∷ members_fault names ledger fragment (list_of d field.Ensemble)
    ∷ [])

abbrev pub fragment_in : List (List ℕ) → Data → Fragment
fragment_in names d =
    record {
      first = number_of d field.FirstEntry;
      ensemble = map (λ member. bookie_in names (member_name member)) (list_of d field.Ensemble);
    }

-- States

abbrev pub is_state : List ℕ → Bool
is_state text = bytes_eq text (codes "OPEN") || bytes_eq text (codes "IN_RECOVERY") || bytes_eq text (codes "CLOSED")

abbrev pub is_closed : Data → Bool
is_closed d = bytes_eq (text_of d field.State) (codes "CLOSED")

-- one past a last entry id from -1 to the greatest
abbrev pub end_after : ℤ → Option ℕ
end_after (pos last) = if nat_le last MAX_ENTRY_ID then Some (last + 1) else None
end_after (negsuc zero) = Some 0
end_after (negsuc (suc n)) = None

-- where a closed ledger ends, if that is within the limit
abbrev pub end_in : Data → Option ℕ
end_in d = option_and_then end_after (result_ok (integer_in d field.LastEntryId))

-- what is wrong with the last entry id, which only a closed ledger has
abbrev pub last_fault : Data → Option PictureFault
last_fault d =
    if is_closed d
    then first_reason
    (result_err (integer_in d field.LastEntryId) ∷ reason_unless (is_some (end_in d)) (Limit field.LastEntryId) ∷ [])
    else None

abbrev pub state_in : Data → LedgerState
state_in d =
    if is_closed d then Closed (unwrap_or (end_in d) 0)
    else (if bytes_eq (text_of d field.State) (codes "OPEN") then Open else InRecovery)

-- what is wrong with a ledger's state
abbrev pub state_fault : Data → Option PictureFault
state_fault d =
    first_reason (
    result_err (text_in d field.State)
    ∷ reason_unless (is_state (text_of d field.State)) (WrongKind field.State)
    ∷ last_fault d
    ∷ [])

-- Metadata

-- what is wrong with a ledger's sizes by themselves
abbrev pub sizes_fault : Data → Option PictureFault
sizes_fault d =
    first_reason (
    result_err (number_in d field.EnsembleSize)
    ∷ result_err (number_in d field.WriteQuorumSize)
    ∷ result_err (number_in d field.AckQuorumSize)
    ∷ [])

-- what is wrong with a ledger's metadata before its fragments
abbrev pub before_fragments : Data → Option PictureFault
before_fragments d =
    first_reason (
    state_fault d
    ∷ sizes_fault d
    ∷ number_fault d field.Version 0 MAX_VERSION
    ∷ list_fault d field.Fragments 0 MAX_FRAGMENTS
    ∷ [])

-- the first fault of the fragments of the ledger of this number
unfoldable pub fragments_fault : List (List ℕ) → ℕ → List Data → Option (PictureFault × Place)
fragments_fault names ledger fragments =
    fault_along (λ i _ d. fragment_fault names ledger i d) 0 [] fragments

-- the metadata that a ledger's fields name, in a picture whose bookies have these names
abbrev pub pictured_metadata : List (List ℕ) → Data → Metadata
pictured_metadata names d = record {
  size = number_of d field.EnsembleSize;
  write_quorum = number_of d field.WriteQuorumSize;
  ack_quorum = number_of d field.AckQuorumSize;
  state = state_in d;
  version = number_of d field.Version;
  fragments = map (fragment_in names) (list_of d field.Fragments);
}

-- a broken rule of metadata, as the fault of the ledger
abbrev pub broken_rule : ℕ → MetaFault → PictureFault
broken_rule ledger meta.BadQuorum = BadLedger ledger flaw.Quorum
broken_rule ledger meta.BadFragment = BadLedger ledger flaw.Fragment
broken_rule ledger meta.BadEnsemble = BadLedger ledger flaw.Ensemble
broken_rule ledger meta.BadLast = BadLedger ledger flaw.Last
broken_rule ledger meta.NoMemory = NoMemory

-- the rule that a ledger's metadata breaks
abbrev pub rule_fault : List (List ℕ) → Data → Option PictureFault
rule_fault names d = option_map (broken_rule (number_of d field.Id)) (fault_of (pictured_metadata names d))

-- the first fault of a ledger's metadata: its fields in their order, and then its rules, which judge it as a whole
unfoldable pub metadata_fault : List (List ℕ) → ℕ → Data → Option (PictureFault × Place)
metadata_fault names ledger d =
    first_reason (
    fault_at (place.Ledger ledger) (before_fragments d)
    ∷ fragments_fault names ledger (list_of d field.Fragments)
    ∷ fault_at (place.Ledger ledger) (rule_fault names d)
    ∷ [])

-- Ledgers

-- what is wrong with the id of a ledger that follows the ledgers with these ids
abbrev pub id_fault : List ℕ → Data → Option PictureFault
id_fault ids d =
    first_reason (
    reason_unless (is_object d) (WrongKind field.Ledger)
    ∷ number_fault d field.Id 0 MAX_LEDGER_ID
    ∷ reason_unless (not (list_any (nat_eq (number_of d field.Id)) ids))
    (Twice (repeated.Ledger (number_of d field.Id)))
    ∷ [])

-- the first fault of the ledger of this number, which follows the ledgers with these ids
abbrev pub ledger_fault : List (List ℕ) → ℕ → List ℕ → Data → Option (PictureFault × Place)
ledger_fault names ledger ids d =
    first_reason (fault_at (place.Ledger ledger) (id_fault ids d) ∷ metadata_fault names ledger d ∷ [])

abbrev pub ids_in : List Data → List ℕ
ids_in ledgers = map (λ d. number_of d field.Id) ledgers

-- the first fault of ledgers
unfoldable pub each_ledger_fault : List (List ℕ) → List Data → Option (PictureFault × Place)
each_ledger_fault names ledgers = fault_along (λ i before d. ledger_fault names i (ids_in before) d) 0 [] ledgers

-- what is wrong with a picture's ledgers
unfoldable pub ledgers_fault : List (List ℕ) → Data → Option (PictureFault × Place)
ledgers_fault names d =
    first_reason
    (fault_at place.Picture (list_fault d field.Ledgers 0 MAX_LEDGERS)
    ∷ each_ledger_fault names (list_of d field.Ledgers) ∷ [])

-- a ledger by the fields of its own, which don't say how many words it has
pub record ListedLedger : Type 0 where
  pub id : ℕ
  pub metadata : Metadata

abbrev pub listed_in : List (List ℕ) → Data → ListedLedger
listed_in names d = record { id = number_of d field.Id; metadata = pictured_metadata names d }

-- the ledger with the words that reach its greatest entry, with no task and no lock
abbrev pub ledger_of : (ℕ → Option ℕ) → ListedLedger → Ledger
ledger_of greatest g =
    record { id = g.id; metadata = g.metadata; words = words_to (greatest g.id); task = None; lock = None }

-- the ledger, where the bookies hold these contents
abbrev pub ledger_in : List (List ℕ) → Contents → Data → Ledger
ledger_in names contents d = ledger_of (greatest_held contents) (listed_in names d)
