-- The lines of ledgers. Beside what each field must be it is settled here:
-- * there is at least one fragment, and the first begins at entry 0;
-- * a bookie may stand twice in an ensemble;
-- * a closed ledger ends no earlier than its last fragment begins; of another one the last entry id is ignored.
use Rattle.std.specs.Prelude.{ℕ, zero, suc, ◌+◌, ◌-◌, ℤ, pos, negsuc, Bool, ◌||◌, nat_le, List, [], ◌∷◌, map, length}
use Rattle.std.specs.Prelude.{codes, if◌then◌else◌, Option, None, Some, unwrap_or, Result}
use Rattle.std.specs.List.{last_or}
use Rattle.std.specs.Option.{is_some, ok_or, option_map_or, option_and_then}
use Rattle.std.specs.Result.{result_err, result_ok, result_unwrap_or}
use Rattle.std.specs.Str.{bytes_eq}
use Rattle.serde_json.specs.Data.{Data}
use Rattle.serde_json.specs.Find.{as_str}
use Rattle.reh_model.specs.Checks.{first_reason, reason_unless}
use Rattle.reh_fields.specs.Members.{is_object}
use Rattle.reh_inventory_fields.specs.declared.fields.Field.TheVariants as field
use Rattle.reh_inventory_fields.specs.declared.faults.Fault.{Fault}
use Rattle.reh_inventory_fields.specs.declared.faults.Fault.TheVariants.{WrongKind, Limit}
use Rattle.reh_inventory.specs.declared.ledgers.Fragment.{Fragment}
use Rattle.reh_inventory.specs.declared.ledgers.LedgerLine.{LedgerLine}
use Rattle.reh_inventory.specs.declared.ledgers.LedgerState.{LedgerState}
use Rattle.reh_inventory.specs.declared.ledgers.LedgerState.TheVariants.{Open, InRecovery, Closed}
use Rattle.reh_inventory.specs.declared.ledgers.Sizes.{Sizes}
use Rattle.reh_inventory_fields.specs.declared.members.TheConstants.{MAX_ENSEMBLE, MAX_NUMBER}
use Rattle.reh_inventory_fields.specs.declared.places.Place.{Place}
use Rattle.reh_inventory_fields.specs.declared.places.Place.TheVariants as place
use Rattle.reh_inventory_fields.specs.Faults.{fault_at, fault_along}
use Rattle.reh_inventory_fields.specs.Members.{text_in, integer_in, list_in, number_of, text_of, list_of, number_fault, list_fault}
use Rattle.reh_inventory_fields.specs.Members.{number_if_there, number_if_there_fault, text_fault}
use Rattle.reh_inventory.specs.Contents.{contents_fault, contents_in}

-- Fragments

-- a member of an ensemble is a text
abbrev pub member_name_in : Data → Result (List ℕ) Fault
member_name_in d = ok_or (as_str d) (WrongKind field.Ensemble)

abbrev pub member_name : Data → List ℕ
member_name d = result_unwrap_or (member_name_in d) []

-- and a name
abbrev pub member_fault : Data → Option Fault
member_fault d = first_reason (result_err (member_name_in d) ∷ text_fault field.Ensemble (member_name d) ∷ [])

-- the first fault of an ensemble's members
unfoldable pub members_fault : ℕ → List Data → Option (Fault × Place)
members_fault fragment members =
    fault_along (λ i _ d. fault_at (place.Member fragment i) (member_fault d)) 0 [] members

-- where a fragment may begin, at the earliest and at the latest, after those before it: the first at entry 0, and each
-- other one after the one before
abbrev pub bounds_after : List Data → ℕ × ℕ
bounds_after fragments =
    option_map_or (λ d. (number_of d field.FirstEntry + 1, MAX_NUMBER)) (last_or None fragments) (0, 0)

abbrev pub next_first : List Data → ℕ
next_first fragments = (bounds_after fragments).0

-- what is wrong with a fragment before the members of its ensemble, which has this size
abbrev pub before_members : ℕ → ℕ × ℕ → Data → Option Fault
before_members size bounds d =
    first_reason (
    reason_unless (is_object d) (WrongKind field.Fragment)
    ∷ number_fault d field.FirstEntry bounds.0 bounds.1
    ∷ list_fault d field.Ensemble size size
    ∷ [])

-- the first fault of the fragment of this number
abbrev pub fragment_fault : ℕ → ℕ → ℕ × ℕ → Data → Option (Fault × Place)
fragment_fault size fragment bounds d =
    first_reason (
    fault_at (place.Fragment fragment) (before_members size bounds d)
    ∷ members_fault fragment (list_of d field.Ensemble)
    ∷ [])

abbrev pub fragment_in : Data → Fragment
fragment_in d = record {
  first = number_of d field.FirstEntry;
  ensemble = map member_name (list_of d field.Ensemble);
}

-- the first fault of fragments
unfoldable pub each_fragment_fault : ℕ → List Data → Option (Fault × Place)
each_fragment_fault size fragments =
    fault_along (λ i before d. fragment_fault size i (bounds_after before) d) 0 [] fragments

-- States

abbrev pub is_state : List ℕ → Bool
is_state text = bytes_eq text (codes "OPEN") || bytes_eq text (codes "IN_RECOVERY") || bytes_eq text (codes "CLOSED")

abbrev pub is_closed : Data → Bool
is_closed d = bytes_eq (text_of d field.State) (codes "CLOSED")

-- one past a last entry id from -1 on
abbrev pub end_after : ℤ → Option ℕ
end_after (pos last) = Some (last + 1)
end_after (negsuc zero) = Some 0
end_after (negsuc (suc n)) = None

-- where a closed ledger ends
abbrev pub end_in : Data → Option ℕ
end_in d = option_and_then end_after (result_ok (integer_in d field.LastEntryId))

abbrev pub end_of : Data → ℕ
end_of d = unwrap_or (end_in d) 0

-- what is wrong with the last entry id of a closed ledger, of which one more fragment could begin at the next entry
abbrev pub last_fault : ℕ → Data → Option Fault
last_fault next d =
    first_reason (
    result_err (integer_in d field.LastEntryId)
    ∷ reason_unless (is_some (end_in d)) (Limit field.LastEntryId)
    ∷ reason_unless (nat_le (next - 1) (end_of d)) (Limit field.LastEntryId)
    ∷ [])

abbrev pub state_in : Data → LedgerState
state_in d =
    if is_closed d then Closed (end_of d)
    else (if bytes_eq (text_of d field.State) (codes "OPEN") then Open else InRecovery)

-- what is wrong with a ledger's state
abbrev pub state_fault : ℕ → Data → Option Fault
state_fault next d =
    first_reason (
    result_err (text_in d field.State)
    ∷ reason_unless (is_state (text_of d field.State)) (WrongKind field.State)
    ∷ (if is_closed d then last_fault next d else None)
    ∷ [])

-- Ledgers

-- 1 <= ack quorum <= write quorum <= ensemble size <= 64
abbrev pub sizes_fault : Data → Option Fault
sizes_fault d =
    first_reason (
    number_fault d field.EnsembleSize 1 MAX_ENSEMBLE
    ∷ number_fault d field.WriteQuorumSize 1 (number_of d field.EnsembleSize)
    ∷ number_fault d field.AckQuorumSize 1 (number_of d field.WriteQuorumSize)
    ∷ [])

abbrev pub sizes_in : Data → Sizes
sizes_in d = record {
  ensemble = number_of d field.EnsembleSize;
  write_quorum = number_of d field.WriteQuorumSize;
  ack_quorum = number_of d field.AckQuorumSize;
}

abbrev pub id_fault : Data → Option Fault
id_fault d = number_fault d field.Id 0 MAX_NUMBER

-- what is wrong with a ledger before its fragments
abbrev pub before_fragments : Data → Option Fault
before_fragments d =
    first_reason (
    id_fault d
    ∷ sizes_fault d
    ∷ number_if_there_fault d field.Version
    ∷ number_if_there_fault d field.Length
    ∷ result_err (list_in d field.Fragments)
    ∷ reason_unless (nat_le 1 (length (list_of d field.Fragments))) (Limit field.Fragments)
    ∷ [])

-- the first fault of a ledger: the fields before its fragments, these, its state and its contents
abbrev pub ledger_fault : Data → Option (Fault × Place)
ledger_fault d =
    first_reason (
    fault_at place.Line (before_fragments d)
    ∷ each_fragment_fault (number_of d field.EnsembleSize) (list_of d field.Fragments)
    ∷ fault_at place.Line (state_fault (next_first (list_of d field.Fragments)) d)
    ∷ contents_fault d
    ∷ [])

abbrev pub ledger_in : Data → LedgerLine
ledger_in d = record {
  id = number_of d field.Id;
  state = state_in d;
  sizes = sizes_in d;
  version = number_if_there d field.Version;
  length = number_if_there d field.Length;
  fragments = map fragment_in (list_of d field.Fragments);
  contents = contents_in d;
}
