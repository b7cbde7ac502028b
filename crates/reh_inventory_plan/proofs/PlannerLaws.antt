-- What comes of the ledgers of one line more.
use Rattle.std.proofs.Common.{◌≡◌, ◌∙◌, ℕ, Bool, List, [], ◌∷◌, ◌++◌, Ok, None, Some, Option, ap, subst, sym, cond}
use Rattle.std.specs.List.{filter}
use Rattle.std.specs.Option.{option_map_or}
use Rattle.std.proofs.lemmas.Grind.{flat_map-append}
use Rattle.std.proofs.lemmas.List.{append-nil}
use Rattle.std.proofs.lemmas.List.Elements.{filter-append}
use Rattle.std.proofs.lemmas.List.Sums.{fold-append}
use Rattle.reh_inventory.specs.Inventories.{added_bytes, and_bytes, no_lines}
use Rattle.reh_inventory.specs.declared.heads.Head.{Head}
use Rattle.reh_inventory.specs.declared.ledgers.LedgerLine.{LedgerLine}
use Rattle.reh_inventory_census.specs.Census.{ledger_line, ledger_lines}
use Rattle.reh_inventory_plan.specs.Asked.{misses_member}
use Rattle.reh_inventory_plan.specs.Lines.{AreOutcomes, GoesOn, IsOutcomeOf, missing_in}
use Rattle.reh_inventory_plan.specs.declared.asked.Asked.{Asked}
use Rattle.reh_inventory_plan.specs.declared.ledgers.Outcome.{Outcome}
use Rattle.reh_inventory_plan.specs.declared.planner.Planner.{Planner}

-- of no ledger nothing comes
pub no_outcomes : (head : Head) (asked : Asked) → AreOutcomes head asked [] []
unfolding AreOutcomes
no_outcomes head asked = tt

-- what came of some ledgers, and then of others
pub outcomes_on : (head : Head) (asked : Asked) (some others : List LedgerLine) (came more : List Outcome)
    → AreOutcomes head asked some came → AreOutcomes head asked others more
    → AreOutcomes head asked (some ++ others) (came ++ more)
unfolding AreOutcomes
outcomes_on head asked [] others [] more none are = are
outcomes_on head asked [] others (outcome ∷ came) more none are = absurd none
outcomes_on head asked (ledger ∷ some) others [] more none are = absurd none
outcomes_on head asked (ledger ∷ some) others (outcome ∷ came) more first are =
    (first.0, outcomes_on head asked some others came more first.1 are)

-- what comes of one ledger, if it misses a member
pub outcome_of_one : (head : Head) (asked : Asked) (ledger : LedgerLine) (outcome : Option Outcome)
    → IsOutcomeOf head asked ledger outcome
    → AreOutcomes head asked (filter (misses_member head asked.lost) (ledger ∷ [])) (option_map_or (λ o. o ∷ []) outcome [])
unfolding AreOutcomes
outcome_of_one head asked ledger None none =
    subst (λ (t : Bool). AreOutcomes head asked (cond t (ledger ∷ []) []) []) (sym none) tt
outcome_of_one head asked ledger (Some outcome) is =
    subst (λ (t : Bool). AreOutcomes head asked (cond t (ledger ∷ []) []) (outcome ∷ [])) (sym is.0) (is.1, tt)

missing-more : (head : Head) (asked : Asked) (before : List (List ℕ)) (bytes : List ℕ)
    → missing_in head asked before ++ filter (misses_member head asked.lost) (ledger_line bytes)
    ≡ missing_in head asked (before ++ bytes ∷ [])
missing-more head asked before bytes =
    let P = misses_member head asked.lost in
    sym (
    ap (filter P) (
    flat_map-append ledger_line before (bytes ∷ [])
    ∙ ap (λ (ls : List LedgerLine). ledger_lines before ++ ls) (append-nil (ledger_line bytes))
    )
    ∙ filter-append P (ledger_lines before) (ledger_line bytes)
    )

-- one line more was added, of whose ledgers this came
pub goes-on : (one other : Planner) (bytes : List ℕ) (more : List Outcome) → other.head ≡ one.head → other.asked ≡ one.asked
    → added_bytes one.inventory bytes ≡ Ok other.inventory → other.outcomes.items ≡ one.outcomes.items ++ more
    → AreOutcomes one.head one.asked (filter (misses_member one.head one.asked.lost) (ledger_line bytes)) more
    → GoesOn (bytes ∷ []) one other
goes-on one other bytes more head asked inventory outcomes are = record {
  head = head;
  asked = asked;
  planning = λ words first before was. record {
    inventory =
        fold-append and_bytes (Ok no_lines) (first ∷ before) (bytes ∷ [])
        ∙ ap (λ r. and_bytes r bytes) was.inventory
        ∙ inventory;
    head = was.head ∙ ap Some (sym head);
    asked_is = asked ∙ was.asked_is;
    outcomes =
        subst (λ (os : List Outcome). AreOutcomes other.head other.asked (missing_in other.head other.asked (before ++ bytes ∷ [])) os)
        (sym outcomes)
        (subst (λ (ls : List LedgerLine). AreOutcomes other.head other.asked ls (one.outcomes.items ++ more))
        (missing-more other.head other.asked before bytes)
        (outcomes_on other.head other.asked (missing_in other.head other.asked before)
        (filter (misses_member other.head other.asked.lost) (ledger_line bytes)) one.outcomes.items more
        (all-moved (λ h a. missing_in h a before) one.outcomes.items was.outcomes)
        (all-moved (λ h a. filter (misses_member h a.lost) (ledger_line bytes)) more are)));
  };
} where
  all-moved : (of : Head → Asked → List LedgerLine) (os : List Outcome) → AreOutcomes one.head one.asked (of one.head one.asked) os
      → AreOutcomes other.head other.asked (of other.head other.asked) os
  all-moved of os is =
      subst (λ (a : Asked). AreOutcomes other.head a (of other.head a) os) (sym asked)
      (subst (λ (h : Head). AreOutcomes h one.asked (of h one.asked) os) (sym head) is)
