-- What a picture without a fault names is a well-formed cluster.
use Rattle.std.proofs.Common.{◌≡◌, ℕ, zero, suc, ◌+◌, ◌-◌, ◌*◌, ◌<◌, ◌≤◌, Bool, true, false, not, ◌&&◌, ◌||◌, cond}
use Rattle.std.proofs.Common.{List, [], ◌∷◌, ◌++◌, map, length, get_or, Option, None, Some, IsSome, is_some, refl, sym}
use Rattle.std.proofs.Common.{ap, ◌∙◌, subst, arith, nat_lt, nat_eq, unwrap_or, append-nil, append_assoc, if◌then◌else◌}
use Rattle.std.proofs.Common.{lit≤}
use Rattle.std.specs.Prelude.{◌==◌, codes, nat_le, ℤ, pos, negsuc, All, sum_by}
use Rattle.std.specs.List.{list_any, find, flat_map, range_with_len, IsDistinct}
use Rattle.std.specs.List.{position_or_len}
use Rattle.std.specs.Option.{option_or, option_map, option_map_or, option_and_then, ForSome}
use Rattle.std.specs.Ordering.{eq_by_cmp, is_eq}
use Rattle.std.specs.Cmp.{IsEquivalence, tied_itself, Equal-is}
use Rattle.std.specs.Result.{result_err, result_ok}
use Rattle.std.specs.Str.{bytes_eq}
use Rattle.std.proofs.lemmas.Bool.Decides.{nat_tests}
use Rattle.std.proofs.lemmas.Cmp.{nat_eq_equiv}
use Rattle.std.proofs.lemmas.List.{map-append, length-map}
use Rattle.std.proofs.lemmas.List.Elements.{All-map}
use Rattle.std.proofs.lemmas.List.Folds.{list_any-append}
use Rattle.std.proofs.lemmas.List.FromFn.{get_or-map-range_with_len, length-map-range_with_len}
use Rattle.std.proofs.lemmas.Map.Keys.{IsDistinct-push}
use Rattle.std.proofs.lemmas.Slice.Eq.{bytes_eq-Decides}
use Rattle.serde_json.specs.Data.{Data}
use Rattle.reh_types.specs.declared.limits.TheConstants.{ENTRIES_IN_WORD, ENTRY_END, MAX_BOOKIES, MAX_ENTRY_ID}
use Rattle.reh_types.specs.declared.limits.TheConstants.{MAX_DELAY, MAX_FRAGMENTS, MAX_GRACE, MAX_LEDGERS, MAX_LEDGER_ID}
use Rattle.reh_types.specs.declared.limits.TheConstants.{MAX_VERSION, MAX_WORDS}
use Rattle.reh_types.specs.declared.names.LedgerState.TheVariants.{Open, InRecovery, Closed}
use Rattle.reh_types.specs.Sets as set
use Rattle.reh_types.specs.Sets.{triples, triple_cmp, triple_total, contains-from_list, contains-items}
use Rattle.reh_model.specs.Metadata.{Metadata, Fragment, IsMetadata, end_of_state}
use Rattle.reh_model.specs.Cluster.{Cluster, Ledger, cluster_of, ledger_among, ledger_at, words_among}
use Rattle.reh_model.specs.WellFormed.{IsCopy, IsWellFormed}
use Rattle.reh_model.proofs.WellFormedLaws.{IsLedgerOf}
use Rattle.reh_model.proofs.ContentsLaws.{IsReached, greatest_held-reached}
use Rattle.reh_model.proofs.Ranges.{Passes, any_passes, list_any-map, same_answer}
use Rattle.reh_model.proofs.CheckLaws.{both-none, reason_unless-none}
use Rattle.reh_model.proofs.MetadataLaws.{KeepsRules, IsMetadata-from_rules}
use Rattle.reh_meta.specs.Faults as meta
use Rattle.reh_fields.specs.declared.fields.Field.{Field}
use Rattle.reh_fields.specs.declared.fields.Field.TheVariants as field
use Rattle.reh_fields.specs.declared.faults.PictureFault.{PictureFault}
use Rattle.reh_fields.specs.declared.faults.PictureFault.TheVariants.{Limit}
use Rattle.reh_model.specs.Checks.{reason_unless}
use Rattle.reh_picture.specs.declared.places.Place.{Place}
use Rattle.reh_picture.specs.declared.places.Place.TheVariants as place
use Rattle.reh_picture.specs.Places.{fault_at, fault_along}
use Rattle.reh_fields.specs.Members.{integer_in, list_in, number_in, number_of, text_of, flag_of, list_of}
use Rattle.reh_fields.specs.Members.{number_fault, list_fault}
use Rattle.reh_picture.specs.Bookies.{bookie_fault, each_bookie_fault, bookies_fault, names_in, registration_in}
use Rattle.reh_fields.specs.Names.{bookie_in, known_fault}
use Rattle.reh_picture.specs.Ledgers.{member_name, member_fault, members_fault, before_members, fragment_fault}
use Rattle.reh_picture.specs.Ledgers.{fragment_in, before_fragments, rule_fault, id_fault}
use Rattle.reh_picture.specs.Ledgers.{fragments_fault, is_closed, end_after, end_in, state_in, pictured_metadata}
use Rattle.reh_picture.specs.Ledgers.{broken_rule, metadata_fault, ledger_fault, ids_in, each_ledger_fault}
use Rattle.reh_picture.specs.Ledgers.{ledgers_fault, ListedLedger, listed_in, ledger_of, ledger_in}
use Rattle.reh_picture.specs.Contents.{ends_in, ends_of, next_after, range_fault, ranges_fault, Holding, holding_in, pairs_in}
use Rattle.reh_picture.specs.Contents.{pair_fault, content_fault, each_content_fault, contents_fault, copies_within, copies_in}
use Rattle.reh_picture.specs.Contents.{held_in, words_to, IsGreatest, HasEnds}
use Rattle.reh_model.specs.Contents as model
use Rattle.reh_picture.proofs.Greatest.{greatest_held-low}
use Rattle.reh_picture.specs.Pictures.{names_of, ids_of, contents_of, pictured_cluster, words_in_all, head_fault}
use Rattle.reh_picture.specs.Pictures.{parts_fault, words_fault, fields_fault, has_delay, delay_of, delay_fault, IsListed, IsShown}

-- Tests

option_map-none : {A B : Type 0} (f : A → B) (o : Option A) → option_map f o ≡ None → o ≡ None
option_map-none f None none = refl
option_map-none f (Some x) none = cc

-- a check that gives no fault at its place gives none
pub fault_at-none : (here : Place) (check : Option PictureFault) → fault_at here check ≡ None → check ≡ None
fault_at-none here check none = option_map-none (λ fault. (fault, here)) check none

not-true : (b : Bool) → not b ≡ true → b ≡ false
not-true true is = cc
not-true false is = refl

and-true : (a b : Bool) → (a && b) ≡ true → (a ≡ true) × (b ≡ true)
and-true true b is = (refl, is)
and-true false b is = cc

-- what is checked to lie within bounds does
bounded : (least n most : ℕ) (fault : PictureFault) → reason_unless (nat_le least n && nat_le n most) fault ≡ None
    → (least ≤ n) × (n ≤ most)
bounded least n most fault none =
    let both = and-true (nat_le least n) (nat_le n most) (reason_unless-none _ fault none) in
    let low : nat_le least n ≡ true = both.0 in
    let high : nat_le n most ≡ true = both.1 in
    (grind (arith, nat_tests, low), grind (arith, nat_tests, high))

-- a number within its bounds
number_within : (d : Data) (field : Field) (least most : ℕ) → number_fault d field least most ≡ None
    → (least ≤ number_of d field) × (number_of d field ≤ most)
number_within d field least most none =
    let within = reason_unless (nat_le least (number_of d field) && nat_le (number_of d field) most) (Limit field) in
    let checks = both-none (result_err (number_in d field)) (option_or within None) none in
    bounded least (number_of d field) most (Limit field) (both-none within None checks.1).0

-- a list with a number of elements within its bounds
list_within : (d : Data) (field : Field) (least most : ℕ) → list_fault d field least most ≡ None
    → (least ≤ length (list_of d field)) × (length (list_of d field) ≤ most)
list_within d field least most none =
    let count = length (list_of d field) in
    let within = reason_unless (nat_le least count && nat_le count most) (Limit field) in
    let checks = both-none (result_err (list_in d field)) (option_or within None) none in
    bounded least count most (Limit field) (both-none within None checks.1).0

-- Along lists

-- what is made of each element is as it should be
all_made : {X : Type 0} (judge : ℕ → List Data → Data → Option (PictureFault × Place)) (make : Data → X) (P : X → Type 0)
    → ((i : ℕ) (before : List Data) (d : Data) → judge i before d ≡ None → P (make d))
    → (i : ℕ) (before ds : List Data) → fault_along judge i before ds ≡ None → (k : ℕ) (x : X) → k < length (map make ds)
    → P (get_or (map make ds) k x)
all_made judge make P each i before [] none k x within = absurd (omega arith)
all_made judge make P each i before (d ∷ ds) none zero x within = each i before d (both-none _ _ none).0
all_made judge make P each i before (d ∷ ds) none (suc k) x within =
    all_made judge make P each (i + 1) (before ++ d ∷ []) ds (both-none _ _ none).1 k x (omega arith)

-- as many are made as there are
few_made : {X : Type 0} (make : Data → X) (ds : List Data) (most : ℕ) → length ds ≤ most → length (map make ds) ≤ most
few_made make ds most few = omega (arith, length-map ds make)

-- keys that are each checked against those before them differ
module _ {K : Type 0} (eq : K → K → Bool) (laws : IsEquivalence eq) (key : Data → K)
    (judge : ℕ → List Data → Data → Option (PictureFault × Place))
    (each : (i : ℕ) (before : List Data) (d : Data) → judge i before d ≡ None
    → list_any (eq (key d)) (map key before) ≡ false) where
  differ_after : (i : ℕ) (before ds : List Data) → IsDistinct eq (map key before) → fault_along judge i before ds ≡ None
      → IsDistinct eq (map key (before ++ ds))
  differ_after i before [] differ none =
      subst (λ (xs : List Data). IsDistinct eq (map key xs)) (sym (append-nil before)) differ
  differ_after i before (d ∷ ds) differ none =
      let checks = both-none _ _ none in
      let more : IsDistinct eq (map key (before ++ d ∷ [])) =
      subst (λ (ks : List K). IsDistinct eq ks) (sym (map-append key before (d ∷ [])))
      (IsDistinct-push laws (map key before) (key d) differ (each i before d checks.0)) in
      subst (λ (xs : List Data). IsDistinct eq (map key xs)) (append_assoc before (d ∷ []) ds)
      (differ_after (i + 1) (before ++ d ∷ []) ds more checks.1)

  pub differ : (ds : List Data) → fault_along judge 0 [] ds ≡ None → IsDistinct eq (map key ds)
  unfolding IsDistinct
  differ ds none = differ_after 0 [] ds tt none

bytes_eq_equiv : IsEquivalence bytes_eq
bytes_eq_equiv = record {
  refl = λ x. (bytes_eq-Decides x x).1 refl;
  symm =
      λ x y.
      same_answer _ _ (λ t. (bytes_eq-Decides y x).1 (sym ((bytes_eq-Decides x y).0 t)))
      (λ t. (bytes_eq-Decides x y).1 (sym ((bytes_eq-Decides y x).0 t)));
  congr = λ x y z t. ap (λ (w : List ℕ). bytes_eq w z) ((bytes_eq-Decides x y).0 t);
}

-- Bookies

bookie_differs : (i : ℕ) (before : List Data) (d : Data)
    → fault_at (place.Bookie i) (bookie_fault (names_in before) d) ≡ None
    → list_any (bytes_eq (text_of d field.Name)) (names_in before) ≡ false
bookie_differs i before d none =
    let name = (both-none _ _ (fault_at-none (place.Bookie i) _ none)).0 in
    not-true _ (reason_unless-none _ _ (both-none _ _ (both-none _ _ name).1).0)

names_differ : (bookies : List Data) → each_bookie_fault bookies ≡ None → IsDistinct bytes_eq (names_in bookies)
unfolding each_bookie_fault
names_differ bookies none =
    differ bytes_eq bytes_eq_equiv (λ d. text_of d field.Name)
    (λ i before d. fault_at (place.Bookie i) (bookie_fault (names_in before) d)) bookie_differs bookies none

-- a place, where there is one
abbrev place_if : ℕ → Bool → Option ℕ
place_if n t = cond t (Some n) None

-- a bookie that is known
found_within : (n most : ℕ) (t : Bool) → nat_lt n most ≡ t → is_some (place_if n t) ≡ true
    → unwrap_or (place_if n t) 0 < most
found_within n most true t some = grind (arith, nat_tests, t)
found_within n most false t some = cc

bookie_known : (names : List (List ℕ)) (name : List ℕ) → known_fault names name ≡ None
    → bookie_in names name < length names
bookie_known names name none =
    found_within (position_or_len (bytes_eq name) names) (length names)
    (nat_lt (position_or_len (bytes_eq name) names) (length names)) refl (reason_unless-none _ _ none)

-- Ledgers

-- metadata that breaks no rule
KeepsRules-none : (m : Metadata) → meta.fault_of m ≡ None → KeepsRules m
KeepsRules-none m none =
    let first = both-none _ _ none in
    let second = both-none _ _ first.1 in
    let third = both-none _ _ second.1 in
    record {
      quorums = reason_unless-none _ _ first.0;
      fragments = reason_unless-none _ _ second.0;
      ensembles = reason_unless-none _ _ third.0;
      end = reason_unless-none _ _ (both-none _ _ third.1).0;
    }

end_after-small : (last : ℤ) → unwrap_or (end_after last) 0 ≤ ENTRY_END
end_after-small (pos n) =
    elim (nat_le n MAX_ENTRY_ID) as (λ t. nat_le n MAX_ENTRY_ID ≡ t
    → unwrap_or (cond t (Some (n + 1)) None) 0 ≤ ENTRY_END) [
      | true ↦ λ t. grind (arith, nat_tests, t)
      | false ↦ λ t. lit≤ tt
    ] refl
end_after-small (negsuc zero) = lit≤ tt
end_after-small (negsuc (suc n)) = lit≤ tt

end_small : (o : Option ℤ) → unwrap_or (option_and_then end_after o) 0 ≤ ENTRY_END
end_small None = lit≤ tt
end_small (Some last) = end_after-small last

state_small : (d : Data) → ForSome (end_of_state (state_in d)) (λ end. end ≤ ENTRY_END)
state_small d end is =
    elim (is_closed d) as (λ t.
    end_of_state
    (if t then Closed (unwrap_or (end_in d) 0)
    else (if bytes_eq (text_of d field.State) (codes "OPEN") then Open else InRecovery))
    ≡ Some end → end ≤ ENTRY_END) [
      | true ↦ λ is. let same : unwrap_or (end_in d) 0 ≡ end = cc in
          omega (arith, end_small (result_ok (integer_in d field.LastEntryId)))
      | false ↦
          elim (bytes_eq (text_of d field.State) (codes "OPEN")) as (λ u. end_of_state (if u then Open else InRecovery)
          ≡ Some end → end ≤ ENTRY_END) [
            | true ↦ λ is. cc
            | false ↦ λ is. cc
          ]
    ] is

-- the members of an ensemble are known
module _ (names : List (List ℕ)) (ledger fragment : ℕ) where
  member_known : (i : ℕ) (before : List Data) (d : Data)
      → fault_at (place.Member ledger fragment i) (member_fault names d) ≡ None
      → bookie_in names (member_name d) < length names
  member_known i before d none =
      let member = fault_at-none (place.Member ledger fragment i) (member_fault names d) none in
      bookie_known names (member_name d) (both-none _ _ (both-none _ _ member).1).0

  members_known : (members : List Data) → members_fault names ledger fragment members ≡ None
      → All (λ b. b < length names) (map (λ member. bookie_in names (member_name member)) members)
  unfolding members_fault
  members_known members none =
      all_made (λ i _ d. fault_at (place.Member ledger fragment i) (member_fault names d))
      (λ member. bookie_in names (member_name member)) (λ b. b < length names) member_known 0 [] members none

-- a fragment begins within the limit, and names bookies that are known
pub record IsFragment (bookies : ℕ) (fragment : Fragment) : Type 0 where
  pub first : fragment.first < ENTRY_END
  pub members : All (λ b. b < bookies) fragment.ensemble

entry_low : (entry : ℕ) → entry ≤ MAX_ENTRY_ID → entry < ENTRY_END
entry_low entry low = omega arith

module _ (names : List (List ℕ)) (ledger : ℕ) where
  fragment_good : (i : ℕ) (before : List Data) (d : Data) → fragment_fault names ledger i d ≡ None
      → IsFragment (length names) (fragment_in names d)
  fragment_good i before d none =
      let checks = both-none _ _ none in
      let fields = fault_at-none (place.Fragment ledger i) (before_members d) checks.0 in
      let first : number_fault d field.FirstEntry 0 MAX_ENTRY_ID ≡ None = (both-none _ _ (both-none _ _ fields).1).0 in
      record {
        first = entry_low (number_of d field.FirstEntry) (number_within d field.FirstEntry 0 MAX_ENTRY_ID first).1;
        members = members_known names ledger i (list_of d field.Ensemble) (both-none _ _ checks.1).0;
      }

  fragments_good : (fragments : List Data) → fragments_fault names ledger fragments ≡ None
      → All (IsFragment (length names)) (map (fragment_in names) fragments)
  unfolding fragments_fault
  fragments_good fragments none =
      all_made (λ i _ d. fragment_fault names ledger i d) (fragment_in names) (IsFragment (length names)) fragment_good 0
      [] fragments none

-- a ledger's metadata
pub record IsMetadataOf (names : List (List ℕ)) (d : Data) : Type 0 where
  pub metadata : IsMetadata (pictured_metadata names d)
  pub fragments : All (IsFragment (length names)) (pictured_metadata names d).fragments

metadata_good : (names : List (List ℕ)) (ledger : ℕ) (d : Data) → metadata_fault names ledger d ≡ None
    → IsMetadataOf names d
unfolding metadata_fault
metadata_good names ledger d none =
    let here = place.Ledger ledger in
    let checks = both-none _ _ none in
    let fields = fault_at-none here (before_fragments d) checks.0 in
    let version = both-none _ _ (both-none _ _ (both-none _ _ fields).1).1 in
    let list = both-none _ _ version.1 in
    let fragments = both-none _ _ checks.1 in
    let rules = fault_at-none here (rule_fault names d) (both-none _ _ fragments.1).0 in
    let each = fragments_good names ledger (list_of d field.Fragments) fragments.0 in
    record {
      metadata =
          IsMetadata-from_rules (pictured_metadata names d)
          (KeepsRules-none _ (option_map-none (broken_rule (number_of d field.Id)) _ rules))
          (number_within d field.Version 0 MAX_VERSION version.0).1 (state_small d)
          (few_made (fragment_in names) (list_of d field.Fragments) MAX_FRAGMENTS
          (list_within d field.Fragments 0 MAX_FRAGMENTS list.0).1)
          (λ k fragment within. (each k fragment within).first);
      fragments = each;
    }

-- words that reach a greatest entry which there can be
words_to-low : (greatest : Option ℕ) → ForSome greatest (λ entry. entry < ENTRY_END)
    → ENTRIES_IN_WORD * words_to greatest ≤ ENTRY_END
words_to-low None low = lit≤ tt
words_to-low (Some entry) low = omega (arith, low entry refl)

none_is : {A P : Type 0} {x : A} → None ≡ Some x → P
none_is is = cc

-- a ledger in any cluster with these names, where each entry that is held is one that there can be
ledger_good : (s : Cluster) → All (λ t. t.2 < ENTRY_END) (set.items s.parts.held)
    → (i : ℕ) (before : List Data) (d : Data) → ledger_fault s.names i (ids_in before) d ≡ None
    → IsLedgerOf s (ledger_in s.names s.parts.held d)
ledger_good s low i before d none =
    let checks = both-none _ _ none in
    let id = fault_at-none (place.Ledger i) (id_fault (ids_in before) d) checks.0 in
    let number = (both-none _ _ (both-none _ _ id).1).0 in
    let metadata = metadata_good s.names i d (both-none _ _ checks.1).0 in
    record {
      id = (number_within d field.Id 0 MAX_LEDGER_ID number).1;
      metadata = metadata.metadata;
      members = λ k fragment within. (metadata.fragments k fragment within).members;
      words =
          words_to-low (model.greatest_held s.parts.held (number_of d field.Id))
          (greatest_held-low s.parts.held (number_of d field.Id) ENTRY_END low);
      task = λ task is. none_is is;
      lock = λ lock is. none_is is;
      due = λ due is. none_is is;
    }

ledgers_good : (s : Cluster) → All (λ t. t.2 < ENTRY_END) (set.items s.parts.held) → (ledgers : List Data)
    → each_ledger_fault s.names ledgers ≡ None → All (IsLedgerOf s) (map (ledger_in s.names s.parts.held) ledgers)
unfolding each_ledger_fault
ledgers_good s low ledgers none =
    all_made (λ i before d. ledger_fault s.names i (ids_in before) d) (ledger_in s.names s.parts.held) (IsLedgerOf s)
    (ledger_good s low) 0 [] ledgers none

ledger_differs : (names : List (List ℕ)) (i : ℕ) (before : List Data) (d : Data)
    → ledger_fault names i (ids_in before) d ≡ None → list_any (nat_eq (number_of d field.Id)) (ids_in before) ≡ false
ledger_differs names i before d none =
    let id = fault_at-none (place.Ledger i) (id_fault (ids_in before) d) (both-none _ _ none).0 in
    not-true _ (reason_unless-none _ _ (both-none _ _ (both-none _ _ (both-none _ _ id).1).1).0)

ids_differ : (names : List (List ℕ)) (ledgers : List Data) → each_ledger_fault names ledgers ≡ None
    → IsDistinct nat_eq (ids_in ledgers)
unfolding each_ledger_fault
ids_differ names ledgers none =
    differ nat_eq nat_eq_equiv (λ d. number_of d field.Id) (λ i before d. ledger_fault names i (ids_in before) d)
    (ledger_differs names) ledgers none

-- the ids of the ledgers that are made
pub ids_made : (names : List (List ℕ)) (held : model.Contents) (ledgers : List Data)
    → map {A = Ledger} {B = ℕ} (λ g. g.id) (map (ledger_in names held) ledgers) ≡ ids_in ledgers
ids_made names held [] = refl
ids_made names held (d ∷ ds) = ap (λ (ids : List ℕ). number_of d field.Id ∷ ids) (ids_made names held ds)

-- a ledger of an id that is there is found
ledger_found : (names : List (List ℕ)) (held : model.Contents) (l : ℕ) (ledgers : List Data)
    → list_any (nat_eq l) (ids_in ledgers) ≡ true
    → is_some (find (λ g. g.id == l) (map (ledger_in names held) ledgers)) ≡ true
ledger_found names held l [] any = cc
ledger_found names held l (d ∷ ds) any =
    elim (nat_eq (number_of d field.Id) l) as (λ t. nat_eq (number_of d field.Id) l ≡ t
    → is_some (cond t (Some (ledger_in names held d)) (find (λ g. g.id == l) (map (ledger_in names held) ds))) ≡ true) [
      | true ↦ λ t. refl
      | false ↦ λ t. let off : nat_eq l (number_of d field.Id) ≡ false = grind (arith, nat_tests, t) in
          ledger_found names held l ds (ap (λ b. b || list_any (nat_eq l) (ids_in ds)) (sym off) ∙ any)
    ] refl

-- a ledger that is found has the words that reach its greatest entry
words_found : (names : List (List ℕ)) (held : model.Contents) (l : ℕ) (ledgers : List Data)
    → IsSome (ledger_among (map (ledger_in names held) ledgers) l)
    → words_among (map (ledger_in names held) ledgers) l ≡ words_to (model.greatest_held held l)
words_found names held l [] some = cc
words_found names held l (d ∷ ds) some =
    let others = map (ledger_in names held) ds in
    elim (number_of d field.Id == l) as (λ t. (number_of d field.Id == l) ≡ t
    → IsSome (cond t (Some (ledger_in names held d)) (ledger_among others l))
    → option_map_or (λ g. g.words) (cond t (Some (ledger_in names held d)) (ledger_among others l)) 0
    ≡ words_to (model.greatest_held held l)) [
      | true ↦ λ here _. let same : number_of d field.Id ≡ l = grind (arith, nat_tests, here) in
          ap (λ (k : ℕ). words_to (model.greatest_held held k)) same
      | false ↦ λ _ some. words_found names held l ds some
    ] refl some

-- an entry that isn't past the greatest lies within the words that reach that
within_words : (greatest : Option ℕ) (e : ℕ) → IsReached greatest e → e < ENTRIES_IN_WORD * words_to greatest
within_words greatest e is =
    subst (λ (o : Option ℕ). e < ENTRIES_IN_WORD * words_to o) (sym is.is) (omega (arith, is.reached))

-- Contents

-- the bookie and the ledger are in the picture, and the entry is one that there can be
abbrev IsPictured : ℕ → List Ledger → ℕ × ℕ × ℕ → Type 0
IsPictured bookies ledgers t = (t.0 < bookies) × IsSome (ledger_among ledgers t.1) × (t.2 < ENTRY_END)

abbrev is_triple : ℕ × ℕ × ℕ → ℕ × ℕ × ℕ → Bool
is_triple q t = eq_by_cmp triple_cmp q t

or-either : (a b : Bool) (P : Type 0) → (a ≡ true → P) → (b ≡ true → P) → (a || b) ≡ true → P
or-either true b P first second is = first refl
or-either false b P first second is = second is

-- among two lists, one after the other
any_of_two : {A : Type 0} (p : A → Bool) (xs ys : List A) (P : Type 0) → (list_any p xs ≡ true → P)
    → (list_any p ys ≡ true → P) → list_any p (xs ++ ys) ≡ true → P
any_of_two p xs ys P first second is =
    or-either (list_any p xs) (list_any p ys) P first second (sym (list_any-append p xs ys) ∙ is)

-- a range without a fault has a first entry and a last, within the limit
ends_within : (least : ℕ) (ends : ℕ × ℕ) (fault : PictureFault)
    → reason_unless (nat_le least ends.0 && nat_le ends.0 ends.1 && nat_le ends.1 MAX_ENTRY_ID) fault ≡ None
    → (ends.0 ≤ ends.1) × (ends.1 ≤ MAX_ENTRY_ID)
ends_within least ends fault none =
    let both =
    and-true (nat_le least ends.0 && nat_le ends.0 ends.1) (nat_le ends.1 MAX_ENTRY_ID)
    (reason_unless-none _ fault none) in
    let rises : nat_le ends.0 ends.1 ≡ true = (and-true (nat_le least ends.0) (nat_le ends.0 ends.1) both.0).1 in
    let low : nat_le ends.1 MAX_ENTRY_ID ≡ true = both.1 in
    (grind (arith, nat_tests, rises), grind (arith, nat_tests, low))

range_within : (least : ℕ) (d : Data) → range_fault least d ≡ None
    → ((ends_of d).0 ≤ (ends_of d).1) × ((ends_of d).1 ≤ MAX_ENTRY_ID)
range_within least d none =
    ends_within least (ends_of d) (Limit field.Entries) (both-none _ _ (both-none (result_err (ends_in d)) _ none).1).0

-- an entry of a range
copy_in_range : (s : Cluster) (bookie ledger : ℕ) (ends : ℕ × ℕ) (q : ℕ × ℕ × ℕ) → bookie < length s.names
    → IsSome (ledger_at s ledger) → ends.1 ≤ MAX_ENTRY_ID
    → list_any (is_triple q) (copies_within bookie ledger ends) ≡ true → IsPictured (length s.names) s.parts.ledgers q
copy_in_range s bookie ledger ends q known there small any =
    let w : Passes (λ e. is_triple q (bookie, ledger, e)) ends.0 ((ends.1 + 1) - ends.0) =
    any_passes (λ e. is_triple q (bookie, ledger, e)) ends.0 ((ends.1 + 1) - ends.0)
    (sym (list_any-map (is_triple q) (λ e. (bookie, ledger, e)) (range_with_len ends.0 ((ends.1 + 1) - ends.0)))
    ∙ any) in
    let same : (bookie, ledger, w.at) ≡ q =
    sym (triples.exact q (bookie, ledger, w.at) ((Equal-is (triple_cmp q (bookie, ledger, w.at))).0 w.passes)) in
    let low : w.at < ENTRY_END = omega (arith, w.from, w.below) in
    subst (λ (t : ℕ × ℕ × ℕ). IsPictured (length s.names) s.parts.ledgers t) same (known, there, low)

-- an entry of ranges without a fault
module _ (s : Cluster) (bookie ledger : ℕ) (q : ℕ × ℕ × ℕ) (known : bookie < length s.names)
    (there : IsSome (ledger_at s ledger)) (content : ℕ) where
  copy_in_ranges : (i : ℕ) (before ranges : List Data)
      → fault_along (λ i before d. fault_at (place.Range content i) (range_fault (next_after before) d)) i before ranges
      ≡ None → list_any (is_triple q) (flat_map (copies_within bookie ledger) (map ends_of ranges)) ≡ true
      → IsPictured (length s.names) s.parts.ledgers q
  copy_in_ranges i before [] none any = cc
  copy_in_ranges i before (d ∷ ds) none any =
      let checks = both-none _ _ none in
      let range = fault_at-none (place.Range content i) (range_fault (next_after before) d) checks.0 in
      any_of_two (is_triple q) (copies_within bookie ledger (ends_of d))
      (flat_map (copies_within bookie ledger) (map ends_of ds)) (IsPictured (length s.names) s.parts.ledgers q)
      (copy_in_range s bookie ledger (ends_of d) q known there (range_within (next_after before) d range).1)
      (copy_in_ranges (i + 1) (before ++ d ∷ []) ds checks.1)
      any

  ranges_copies : (ranges : List Data) → ranges_fault content ranges ≡ None
      → list_any (is_triple q) (flat_map (copies_within bookie ledger) (map ends_of ranges)) ≡ true
      → IsPictured (length s.names) s.parts.ledgers q
  unfolding ranges_fault
  ranges_copies ranges none any = copy_in_ranges 0 [] ranges none any

-- a content without a fault has a bookie and a ledger that the picture knows, and ranges without a fault
pub content_none : (names : List (List ℕ)) (ids : List ℕ) (i : ℕ) (pairs : List (ℕ × ℕ)) (d : Data)
    → content_fault names ids i pairs d ≡ None
    → (pair_fault names ids pairs d ≡ None) × (ranges_fault i (list_of d field.Entries) ≡ None)
content_none names ids i pairs d none =
    let here = place.Content i in
    let list = fault_at here (result_err (list_in d field.Entries)) in
    let ranges = ranges_fault i (list_of d field.Entries) in
    let pair = both-none (fault_at here (pair_fault names ids pairs d)) (option_or list (option_or ranges None)) none in
    let rest = both-none list (option_or ranges None) pair.1 in
    (fault_at-none here (pair_fault names ids pairs d) pair.0, (both-none ranges None rest.1).0)

-- an entry of contents without a fault
module _ (s : Cluster) (ids : List ℕ) (found : (l : ℕ) → list_any (nat_eq l) ids ≡ true → IsSome (ledger_at s l))
    (q : ℕ × ℕ × ℕ) where
  copy_in_contents : (i : ℕ) (before contents : List Data)
      → fault_along (λ i before d. content_fault s.names ids i (pairs_in s.names before) d) i before contents ≡ None
      → list_any (is_triple q) (flat_map copies_in (map (holding_in s.names) contents)) ≡ true
      → IsPictured (length s.names) s.parts.ledgers q
  copy_in_contents i before [] none any = cc
  copy_in_contents i before (d ∷ ds) none any =
      let checks = both-none (content_fault s.names ids i (pairs_in s.names before) d) _ none in
      let content = content_none s.names ids i (pairs_in s.names before) d checks.0 in
      let bookie = both-none _ _ (both-none _ _ (both-none _ _ content.0).1).1 in
      let ledger = both-none _ _ (both-none _ _ bookie.1).1 in
      any_of_two (is_triple q) (copies_in (holding_in s.names d)) (flat_map copies_in (map (holding_in s.names) ds))
      (IsPictured (length s.names) s.parts.ledgers q)
      (ranges_copies s (bookie_in s.names (text_of d field.Bookie)) (number_of d field.Ledger) q
      (bookie_known s.names (text_of d field.Bookie) bookie.0)
      (found (number_of d field.Ledger) (reason_unless-none _ _ ledger.0)) i
      (list_of d field.Entries) content.1)
      (copy_in_contents (i + 1) (before ++ d ∷ []) ds checks.1)
      any

  contents_copies : (contents : List Data) → each_content_fault s.names ids contents ≡ None
      → list_any (is_triple q) (flat_map copies_in (map (holding_in s.names) contents)) ≡ true
      → IsPictured (length s.names) s.parts.ledgers q
  unfolding each_content_fault
  contents_copies contents none any = copy_in_contents 0 [] contents none any

-- ranges without a fault have a first entry and a last
range_rises : (content i : ℕ) (before : List Data) (d : Data)
    → fault_at (place.Range content i) (range_fault (next_after before) d) ≡ None → (ends_of d).0 ≤ (ends_of d).1
range_rises content i before d none =
    (range_within (next_after before) d
    (fault_at-none (place.Range content i) (range_fault (next_after before) d) none)).0

ranges_rise : (content : ℕ) (ranges : List Data) → ranges_fault content ranges ≡ None
    → All (λ range. range.0 ≤ range.1) (map ends_of ranges)
unfolding ranges_fault
ranges_rise content ranges none =
    all_made (λ i before d. fault_at (place.Range content i) (range_fault (next_after before) d)) ends_of
    (λ range. range.0 ≤ range.1) (range_rises content) 0 [] ranges none

content_rises : (names : List (List ℕ)) (ids : List ℕ) (i : ℕ) (before : List Data) (d : Data)
    → content_fault names ids i (pairs_in names before) d ≡ None
    → All (λ range. range.0 ≤ range.1) (holding_in names d).ranges
content_rises names ids i before d none =
    ranges_rise i (list_of d field.Entries) (content_none names ids i (pairs_in names before) d none).1

pub contents_rise : (names : List (List ℕ)) (ids : List ℕ) (contents : List Data)
    → each_content_fault names ids contents ≡ None
    → All (λ holding. All (λ range. range.0 ≤ range.1) holding.ranges) (map (holding_in names) contents)
unfolding each_content_fault
contents_rise names ids contents none =
    all_made (λ i before d. content_fault names ids i (pairs_in names before) d) (holding_in names)
    (λ holding. All (λ range. range.0 ≤ range.1) holding.ranges) (content_rises names ids) 0 [] contents none

or-second : (a b : Bool) → b ≡ true → (a || b) ≡ true
or-second true b is = refl
or-second false b is = is

-- what stands in a list is among its elements
get_or-among : {A : Type 0} (eq : A → A → Bool) → ((x : A) → eq x x ≡ true) → (xs : List A) (k : ℕ) (d : A)
    → k < length xs → list_any (eq (get_or xs k d)) xs ≡ true
get_or-among eq itself [] k d within = absurd (omega arith)
get_or-among eq itself (x ∷ xs) zero d within = ap (λ b. b || list_any (eq x) xs) (itself x)
get_or-among eq itself (x ∷ xs) (suc k) d within =
    or-second (eq (get_or xs k d) x) (list_any (eq (get_or xs k d)) xs) (get_or-among eq itself xs k d (omega arith))

-- what is among those of one element is among those of all
among-flat_map : {A B : Type 0} (f : A → List B) (test : B → Bool) (xs : List A) (k : ℕ) (d : A) → k < length xs
    → list_any test (f (get_or xs k d)) ≡ true → list_any test (flat_map f xs) ≡ true
among-flat_map f test [] k d within any = absurd (omega arith)
among-flat_map f test (x ∷ xs) zero d within any =
    list_any-append test (f x) (flat_map f xs) ∙ ap (λ b. b || list_any test (flat_map f xs)) any
among-flat_map f test (x ∷ xs) (suc k) d within any =
    list_any-append test (f x) (flat_map f xs)
    ∙ or-second (list_any test (f x)) (list_any test (flat_map f xs)) (among-flat_map f test xs k d (omega arith) any)

-- the items of a set have what holds of each copy that is in it
all_items : (P : ℕ × ℕ × ℕ → Type 0) (held : model.Contents) → ((q : ℕ × ℕ × ℕ) → set.contains held q ≡ true → P q)
    → All P (set.items held)
all_items P held each = λ k d within.
    let q = get_or (set.items held) k d in
    each q
    (contains-items held q
    ∙ get_or-among is_triple (λ x. ap is_eq (tied_itself triple_total x)) (set.items held) k d within)

-- The cluster

-- a bookie of a picture is lost at its start, if it is lost
lost_at_the_start : (d : Data) → ForSome (registration_in d) (λ tick. tick ≤ 0)
lost_at_the_start d = at_the_start (flag_of d field.Up) where
  at_the_start : (up : Bool) → ForSome (if up then None else Some 0) (λ tick. tick ≤ 0)
  at_the_start true tick is = cc
  at_the_start false tick is = let same : 0 ≡ tick = cc in omega (arith, same)

-- the delay is within its limit
delay_within : (d : Data) → delay_fault d ≡ None → delay_of d ≤ MAX_DELAY
delay_within d =
    elim (has_delay d) as (λ t. (if t then number_fault d field.LostDelayTicks 0 MAX_DELAY else None) ≡ None
    → (if t then number_of d field.LostDelayTicks else 0) ≤ MAX_DELAY) [
      | true ↦ λ none. (number_within d field.LostDelayTicks 0 MAX_DELAY none).1
      | false ↦ λ _. lit≤ tt
    ]

-- the parts of a picture in which nothing is wrong
pub record IsFaultless (d : Data) : Type 0 where
  pub grace : number_of d field.Grace ≤ MAX_GRACE
  pub delay : delay_of d ≤ MAX_DELAY
  pub some_bookie : 1 ≤ length (list_of d field.Bookies)
  pub bookies : length (list_of d field.Bookies) ≤ MAX_BOOKIES
  pub each_bookie : each_bookie_fault (list_of d field.Bookies) ≡ None
  pub ledgers : length (list_of d field.Ledgers) ≤ MAX_LEDGERS
  pub each_ledger : each_ledger_fault (names_of d) (list_of d field.Ledgers) ≡ None
  pub each_content : each_content_fault (names_of d) (ids_of d) (list_of d field.Contents) ≡ None

pub IsFaultless-none : (d : Data) → parts_fault d ≡ None → IsFaultless d
unfolding head_fault bookies_fault ledgers_fault contents_fault
IsFaultless-none d none =
    let head = both-none _ _ none in
    let before = fault_at-none place.Picture (head_fault d) head.0 in
    let grace = both-none _ _ (both-none _ _ (both-none _ _ before).1).1 in
    let bookies = both-none _ _ head.1 in
    let each_bookie = both-none _ _ bookies.0 in
    let ledgers = both-none _ _ bookies.1 in
    let each_ledger = both-none _ _ ledgers.0 in
    let contents = both-none _ _ (both-none _ _ ledgers.1).0 in
    let few_bookies = fault_at-none place.Picture (list_fault d field.Bookies 1 MAX_BOOKIES) each_bookie.0 in
    let few_ledgers = fault_at-none place.Picture (list_fault d field.Ledgers 0 MAX_LEDGERS) each_ledger.0 in
    let within = list_within d field.Bookies 1 MAX_BOOKIES few_bookies in
    record {
      grace = (number_within d field.Grace 0 MAX_GRACE grace.0).1;
      delay = delay_within d (both-none _ _ grace.1).0;
      some_bookie = within.0;
      bookies = within.1;
      each_bookie = (both-none _ _ each_bookie.1).0;
      ledgers = (list_within d field.Ledgers 0 MAX_LEDGERS few_ledgers).1;
      each_ledger = (both-none _ _ each_ledger.1).0;
      each_content = (both-none _ _ contents.1).0;
    }

-- what is held of a picture in which nothing is wrong
pictured_copy : (d : Data) → IsFaultless d → (q : ℕ × ℕ × ℕ) → set.contains (contents_of d) q ≡ true
    → IsPictured (length (names_of d)) (pictured_cluster d).parts.ledgers q
pictured_copy d good q one =
    let s = pictured_cluster d in
    contents_copies s (ids_of d) (λ l there. ledger_found (names_of d) s.parts.held l (list_of d field.Ledgers) there) q
    (list_of d field.Contents) good.each_content
    (sym (contains-from_list triples (flat_map copies_in (map (holding_in (names_of d)) (list_of d field.Contents))) q)
    ∙ one)

-- and lies within the words of its ledger
copy_good : (d : Data) → IsFaultless d → (q : ℕ × ℕ × ℕ) → set.contains (contents_of d) q ≡ true
    → IsCopy (length (names_of d)) (pictured_cluster d).parts.ledgers q
copy_good d good q one =
    let held = contents_of d in
    let known = pictured_copy d good q one in (
      known.0,
      known.1,
      subst (λ (n : ℕ). q.2 < ENTRIES_IN_WORD * n)
          (sym (words_found (names_of d) held q.1 (list_of d field.Ledgers) known.1))
          (within_words (model.greatest_held held q.1) q.2 (greatest_held-reached held q.1 q.2 (q.0, one))),
    )

-- the last entry of a range is among those of the range
end_among : (bookie ledger : ℕ) (ends : ℕ × ℕ) → ends.0 ≤ ends.1
    → list_any (is_triple (bookie, ledger, ends.1)) (copies_within bookie ledger ends) ≡ true
end_among bookie ledger ends rises =
    let last : ℕ × ℕ × ℕ = (bookie, ledger, ends.1) in
    let place = ends.1 - ends.0 in
    let count = (ends.1 + 1) - ends.0 in
    let copies = copies_within bookie ledger ends in
    let copy : ℕ → ℕ × ℕ × ℕ = λ e. (bookie, ledger, e) in
    let is : get_or copies place last ≡ last =
    get_or-map-range_with_len copy ends.0 count place ends.1 last (omega arith) (omega arith) in
    subst (λ (t : ℕ × ℕ × ℕ). list_any (is_triple t) copies ≡ true) is
    (get_or-among is_triple (λ x. ap is_eq (tied_itself triple_total x)) copies place last
    (omega (arith, length-map-range_with_len copy ends.0 count)))

-- and so it lies within the words of its ledger
ends_good : (d : Data) → IsFaultless d
    → All (HasEnds (length (names_of d)) (pictured_cluster d).parts.ledgers)
    (map (holding_in (names_of d)) (list_of d field.Contents))
ends_good d good = λ k other within j none inside.
    let holdings = map (holding_in (names_of d)) (list_of d field.Contents) in
    let holding = get_or holdings k other in
    let ends = get_or holding.ranges j none in
    let q : ℕ × ℕ × ℕ = (holding.bookie, holding.ledger, ends.1) in
    let rises : ends.0 ≤ ends.1 =
    contents_rise (names_of d) (ids_of d) (list_of d field.Contents) good.each_content k other within j none inside in
    let among = among-flat_map copies_in (is_triple q) holdings k other within
    (among-flat_map (copies_within holding.bookie holding.ledger) (is_triple q) holding.ranges j none inside
    (end_among holding.bookie holding.ledger ends rises)) in
    copy_good d good q (contains-from_list triples (flat_map copies_in holdings) q ∙ among)

-- of the holdings that were read too
pub ends-shown : (d : Data) (bookies : ℕ) (ledgers : List Ledger) (holdings : List Holding) → IsFaultless d
    → bookies ≡ length (names_of d) → ledgers ≡ (pictured_cluster d).parts.ledgers
    → holdings ≡ map (holding_in (names_of d)) (list_of d field.Contents) → All (HasEnds bookies ledgers) holdings
ends-shown d bookies ledgers holdings good count made are =
    subst (λ (hs : List Holding). All (HasEnds bookies ledgers) hs) (sym are)
    (subst (λ (gs : List Ledger). All (HasEnds bookies gs) (map (holding_in (names_of d)) (list_of d field.Contents)))
    (sym made)
    (subst (λ (n : ℕ).
    All (HasEnds n (pictured_cluster d).parts.ledgers) (map (holding_in (names_of d)) (list_of d field.Contents)))
    (sym count) (ends_good d good)))

-- the ledgers of such a picture
pictured_ledgers : (d : Data) → IsFaultless d → All (IsLedgerOf (pictured_cluster d)) (pictured_cluster d).parts.ledgers
pictured_ledgers d good =
    let s = pictured_cluster d in
    ledgers_good s (all_items (λ q. q.2 < ENTRY_END) s.parts.held (λ q one. (pictured_copy d good q one).2))
    (list_of d field.Ledgers) good.each_ledger

-- their words are few
pub pictured_words : (d : Data) → IsFaultless d
    → All (λ g. ENTRIES_IN_WORD * g.words ≤ ENTRY_END) (pictured_cluster d).parts.ledgers
pictured_words d good = λ k g within. (pictured_ledgers d good k g within).words

-- their ids differ
pub pictured_ids : (d : Data) → IsFaultless d → IsDistinct nat_eq (map (λ g. g.id) (pictured_cluster d).parts.ledgers)
pictured_ids d good =
    subst (λ (ids : List ℕ). IsDistinct nat_eq ids)
    (sym (ids_made (names_of d) (contents_of d) (list_of d field.Ledgers)))
    (ids_differ (names_of d) (list_of d field.Ledgers) good.each_ledger)

-- such parts within the limit of words are a well-formed cluster
pub IsWellFormed-pictured_cluster : (d : Data) → IsFaultless d → words_in_all (pictured_cluster d) ≤ MAX_WORDS
    → IsWellFormed (pictured_cluster d)
IsWellFormed-pictured_cluster d good words =
    let s = pictured_cluster d in
    let count : length (names_of d) ≡ length (list_of d field.Bookies) =
    length-map (list_of d field.Bookies) (λ d. text_of d field.Name) in
    record {
      names = record {
        some = omega (arith, count, good.some_bookie);
        few = omega (arith, count, good.bookies);
        different = names_differ (list_of d field.Bookies) good.each_bookie;
      };
      grace = good.grace;
      delay = good.delay;
      clock = lit≤ tt;
      registrations = record {
        each = length-map (list_of d field.Bookies) registration_in ∙ sym count;
        ticks = All-map (λ lost. ForSome lost (λ tick. tick ≤ 0)) registration_in (list_of d field.Bookies)
            (λ k other within. lost_at_the_start (get_or (list_of d field.Bookies) k other));
      };
      ledgers = record {
        few = omega (arith, length-map (list_of d field.Ledgers) (ledger_in (names_of d) s.parts.held), good.ledgers);
        different = pictured_ids d good;
        each = pictured_ledgers d good;
      };
      contents = record {
        copies = all_items (IsCopy (length s.names) s.parts.ledgers) s.parts.held (copy_good d good);
        words = words;
      };
    }

-- the listed ledgers with the greatest entries of the contents are the ledgers where those are held
ledgers_made : (names : List (List ℕ)) (ends : ℕ → Option ℕ) (held : model.Contents) → IsGreatest ends held
    → (ds : List Data) → map (ledger_of ends) (map (listed_in names) ds) ≡ map (ledger_in names held) ds
ledgers_made names ends held is [] = refl
ledgers_made names ends held is (d ∷ ds) = λ i. record {
  id = number_of d field.Id;
  metadata = pictured_metadata names d;
  words = words_to (is (number_of d field.Id) i);
  task = None;
  lock = None;
}
    ∷ ledgers_made names ends held is ds i

-- the ledgers that were read are those of the cluster
pub ledgers-shown : (d : Data) (names : List (List ℕ)) (lost_at : List (Option ℕ)) (grace delay : ℕ) (listed : List ListedLedger)
    (holdings lent : List Holding) (ends : ℕ → Option ℕ) (ledgers : List Ledger)
    → IsShown d names lost_at grace delay listed holdings → lent ≡ holdings
    → IsGreatest ends (held_in lent) → ledgers ≡ map (ledger_of ends) listed
    → ledgers ≡ (pictured_cluster d).parts.ledgers
ledgers-shown d names lost_at grace delay listed holdings lent ends ledgers shown same is made =
    made ∙ ap (map (ledger_of ends)) shown.listed_are
    ∙ ledgers_made (names_of d) ends (contents_of d)
    (subst (λ (hs : List Holding). IsGreatest ends (held_in hs)) (same ∙ shown.holdings_are) is)
    (list_of d field.Ledgers)

-- and so are the other parts
pub cluster_of-listed : (d : Data) (names : List (List ℕ)) (lost_at : List (Option ℕ)) (grace delay : ℕ) (ledgers : List Ledger)
    (holdings : List Holding) (held : model.Contents) → IsListed d names lost_at grace delay ledgers holdings
    → held ≡ held_in holdings
    → cluster_of names lost_at grace delay true ledgers held ≡ pictured_cluster d
cluster_of-listed d names lost_at grace delay ledgers holdings held listed is =
    λ i.
    cluster_of (listed.names_are i) (listed.lost_are i) (listed.grace_is i) (listed.delay_is i) true (listed.ledgers_are i)
    ((is ∙ ap held_in listed.holdings_are) i)

-- and take as many words
pub words_in_all-shown : (d : Data) (names : List (List ℕ)) (ledgers : List Ledger) (bookies words : ℕ)
    → names ≡ names_of d → ledgers ≡ (pictured_cluster d).parts.ledgers → bookies ≡ length names
    → words ≡ bookies * sum_by (λ g. g.words) ledgers → words ≡ words_in_all (pictured_cluster d)
words_in_all-shown d names ledgers bookies words named made count is =
    is ∙ (λ i. (count ∙ ap length named) i * sum_by (λ g. g.words) (made i))

-- the limit of words is judged last
pub fields_fault-within : (d : Data) → parts_fault d ≡ None → words_in_all (pictured_cluster d) ≤ MAX_WORDS
    → fields_fault d ≡ None
fields_fault-within d good within =
    let test : nat_le (words_in_all (pictured_cluster d)) MAX_WORDS ≡ true = grind (arith, nat_tests) in
    ap (λ (o : Option (PictureFault × Place)). option_or o (option_or (fault_at place.Picture (words_fault d)) None)) good
    ∙ ap (λ (t : Bool). option_or (fault_at place.Picture (reason_unless t (Limit field.Contents))) None) test

pub fields_fault-past : (d : Data) → parts_fault d ≡ None → MAX_WORDS < words_in_all (pictured_cluster d)
    → fields_fault d ≡ Some (Limit field.Contents, place.Picture)
fields_fault-past d good past =
    let test : nat_le (words_in_all (pictured_cluster d)) MAX_WORDS ≡ false = grind (arith, nat_tests) in
    ap (λ (o : Option (PictureFault × Place)). option_or o (option_or (fault_at place.Picture (words_fault d)) None)) good
    ∙ ap (λ (t : Bool). option_or (fault_at place.Picture (reason_unless t (Limit field.Contents))) None) test

-- where there is no fault, no part has one, and the words are within the limit
pub parts_of-none : (d : Data) → fields_fault d ≡ None → parts_fault d ≡ None
parts_of-none d none = (both-none _ _ none).0

few_words : (words : ℕ) (fault : PictureFault) → reason_unless (nat_le words MAX_WORDS) fault ≡ None → words ≤ MAX_WORDS
few_words words fault none =
    let test : nat_le words MAX_WORDS ≡ true = reason_unless-none _ fault none in grind (arith, nat_tests, test)

pub words_of-none : (d : Data) → fields_fault d ≡ None → words_in_all (pictured_cluster d) ≤ MAX_WORDS
words_of-none d none =
    few_words (words_in_all (pictured_cluster d)) (Limit field.Contents)
    (fault_at-none place.Picture (words_fault d) (both-none _ _ (both-none _ _ none).1).0)
