-- A ledger that is written is read with the same metadata.
use Rattle.std.proofs.Common.{◌≡◌, ℕ, zero, suc, ◌-◌, ◌+◌, ◌^◌, ◌<◌, ◌≤◌, Bool, true, List, [], ◌∷◌, map, length, refl, ap, ◌∙◌, arith, lt-ltb, le-leb}
use Rattle.std.specs.Prelude.{◌==◌, false, negsuc, ℤ, All, nat_lt, nat_le, pos, unwrap_or, Option, Some, None, if◌then◌else◌}
use Rattle.std.specs.List.{IsDistinct}
use Rattle.std.specs.Option.{ForSome, ok_or, option_and_then}
use Rattle.std.specs.Result.{result_ok}
use Rattle.std.specs.Str.{bytes_eq}
use Rattle.std.proofs.lemmas.List.Elements.{All-head, All-tail}
use Rattle.serde_json.specs.Data.{Items, Num, unsigned, negative}
use Rattle.serde_json.specs.Find.{as_i64}
use Rattle.std.proofs.lemmas.Bool.Decides.{nat_tests}
use Rattle.serde_json.specs.View.{items_of}
use Rattle.reh_types.specs.declared.limits.TheConstants.{ENTRY_END, MAX_ENTRY_ID}
use Rattle.reh_types.specs.declared.names.LedgerState.{LedgerState}
use Rattle.reh_types.specs.declared.names.LedgerState.TheVariants.{Open, InRecovery, Closed}
use Rattle.reh_model.specs.Metadata.{Metadata, Fragment, end_of_state, last_fragment}
use Rattle.reh_model.specs.Contents.{Contents, greatest_held}
use Rattle.reh_model.specs.Cluster.{Ledger}
use Rattle.reh_model.specs.WellFormed.{IsLedger}
use Rattle.reh_fields.proofs.Elements.{elements-items_of}
use Rattle.reh_fields.specs.Names.{bookie_in}
use Rattle.reh_fields.specs.declared.fields.Field.TheVariants as field
use Rattle.reh_fields.specs.declared.faults.PictureFault.TheVariants.{WrongKind}
use Rattle.reh_picture.specs.Contents.{words_to}
use Rattle.reh_picture.specs.Ledgers.{member_name, fragment_in, end_after, state_in, pictured_metadata, ledger_in}
use Rattle.reh_picture_out.specs.Kept.{bare_ledger}
use Rattle.reh_picture_out.specs.Written.{member_data, fragment_data, fragments_data, metadata_data, ledger_data, ledgers_data}
use Rattle.reh_picture_out.proofs.NamesLaws.{bookie_in-name_at}

abbrev closed_by : Bool → ℕ → LedgerState
closed_by small n = Closed (unwrap_or (if small then Some (n + 1) else None) 0)

abbrev closed_at : Option ℤ → LedgerState
closed_at last = Closed (unwrap_or (option_and_then end_after (result_ok (ok_or last (WrongKind field.LastEntryId)))) 0)

abbrev as_closed : Num → LedgerState
as_closed last = closed_at (as_i64 last)

-- an end within the limit
end-small : (state : LedgerState) (first : ℕ) → ForSome (end_of_state state) (λ end. (first ≤ end) × (end ≤ ENTRY_END))
    → ForSome (end_of_state state) (λ end. end ≤ ENTRY_END)
end-small state first within = λ end is. (within end is).1

-- the state, and the end of a closed ledger
state-back : (id : ℕ) (m : Metadata) (fragments : Items) (state : LedgerState)
    → ForSome (end_of_state state) (λ end. end ≤ ENTRY_END)
    → state_in (metadata_data id (record m { state = state }) fragments) ≡ state
state-back id m fragments Open within = refl
state-back id m fragments InRecovery within = refl
state-back id m fragments (Closed zero) within = refl
state-back id m fragments (Closed (suc n)) within =
    let fits : suc n ≤ ENTRY_END = within (suc n) refl in
    let small : nat_lt n (2 ^ 63) ≡ true = lt-ltb n (2 ^ 63) (omega (arith, fits)) in
    let last : nat_le n MAX_ENTRY_ID ≡ true = le-leb n MAX_ENTRY_ID (omega (arith, fits)) in
    let end : n + 1 ≡ suc n = omega arith in
    let before : suc n - 1 ≡ n = omega arith in
    let more : (suc n == 0) ≡ false = grind (arith, nat_tests) in
    ap as_closed (ap (λ b. if b then negative (negsuc zero) else unsigned (suc n - 1)) more ∙ ap unsigned before)
    ∙ ap (λ b. closed_at (if b then Some (pos n) else None)) small ∙ ap (λ b. closed_by b n) last ∙ ap Closed end

module _ (names : List (List ℕ)) (apart : IsDistinct bytes_eq names) where
  members-back : (members : List ℕ) → All (λ b. b < length names) members
      → map (λ member. bookie_in names (member_name member)) (map (member_data names) members) ≡ members
  members-back [] all = refl
  members-back (b ∷ members) all =
      λ j. bookie_in-name_at names b apart (All-head (λ b. b < length names) b members all) j
      ∷ members-back members (All-tail (λ b. b < length names) b members all) j

  abbrev AreMembers : Fragment → Type 0
  AreMembers fragment = All (λ b. b < length names) fragment.ensemble

  fragments-back : (fragments : List Fragment) → All AreMembers fragments
      → map (fragment_in names) (map (fragment_data names) fragments) ≡ fragments
  fragments-back [] all = refl
  fragments-back (f ∷ fragments) all =
      λ j. record {
        first = f.first;
        ensemble =
            (ap (map (λ member. bookie_in names (member_name member))) (elements-items_of (map (member_data names) f.ensemble))
            ∙ members-back f.ensemble (All-head AreMembers f fragments all)) j;
      } ∷ fragments-back fragments (All-tail AreMembers f fragments all) j

  -- the metadata
  metadata-back : (latest : ℕ) (g : Ledger) → IsLedger (length names) latest g
      → pictured_metadata names (ledger_data names g) ≡ g.metadata
  metadata-back latest g ledger =
      let m = g.metadata in
      let written = fragments_data names m.fragments in
      let end = end-small m.state (last_fragment m).first ledger.metadata.end in
      λ j. record {
        size = m.size;
        write_quorum = m.write_quorum;
        ack_quorum = m.ack_quorum;
        state = state-back g.id m (items_of written) m.state end j;
        version = m.version;
        fragments = (ap (map (fragment_in names)) (elements-items_of written) ∙ fragments-back m.fragments ledger.members) j;
      }

  -- the ledgers, each without its task and its lock
  pub ledgers-back : (held : Contents) (latest : ℕ) (ledgers : List Ledger) → All (IsLedger (length names) latest) ledgers
      → map (ledger_in names held) (ledgers_data names ledgers) ≡ map (bare_ledger held) ledgers
  ledgers-back held latest [] all = refl
  ledgers-back held latest (g ∷ ledgers) all =
      λ j. record {
        id = g.id;
        metadata = metadata-back latest g (All-head (IsLedger (length names) latest) g ledgers all) j;
        words = words_to (greatest_held held g.id);
        task = None;
        lock = None;
      } ∷ ledgers-back held latest ledgers (All-tail (IsLedger (length names) latest) g ledgers all) j
