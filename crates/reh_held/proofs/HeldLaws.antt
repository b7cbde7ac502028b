-- The contents and the words of tables, by look-ups.
use Rattle.std.proofs.Common.{◌≡◌, ℕ, suc, ◌+◌, ◌-◌, ◌*◌, ◌/◌, ◌%◌, ◌<◌, Bool, true, false, cond, ◌&&◌, ◌||◌, List, []}
use Rattle.std.proofs.Common.{◌∷◌, length, map, get_or, refl, sym, ap, subst, ◌∙◌, arith, nat_eq, nat_le, inl, inr}
use Rattle.std.specs.Prelude.{◌==◌}
use Rattle.std.specs.List.{list_any, range_with_len}
use Rattle.std.specs.Int.{bit_at}
use Rattle.std.specs.Option.{unwrap_or, option_map, IfSome}
use Rattle.std.specs.declared.option.Option.{Option}
use Rattle.std.specs.declared.option.Option.TheVariants.{None, Some}
use Rattle.std.specs.Ordering.{nat_cmp, eq_by_cmp, is_eq}
use Rattle.std.specs.Cmp.{unsigned_tied, nat_cmp_total}
use Rattle.std.specs.Map.{keys_of}
use Rattle.std.specs.FinMap as finite
use Rattle.std.specs.FinMap.{FinMap, find, same_map, get-from_entries, nat_cmp-IsAntisymmetric}
use Rattle.std.proofs.lemmas.Bool.{cases_lt, cases_order}
use Rattle.std.proofs.lemmas.Bool.Decides.{nat_tests}
use Rattle.std.proofs.lemmas.Nat.Bits.{bit_at-zero}
use Rattle.std.proofs.lemmas.List.{get_or_past}
use Rattle.std.proofs.lemmas.List.Folds.{list_any-append}
use Rattle.reh_types.specs.Sets.{triples, triple_cmp, contains-from_list, same_set}
use Rattle.reh_types.proofs.BitLaws.{any_filtered, in_range, and_true}
use Rattle.reh_model.specs.Contents.{Contents, has}
use Rattle.reh_model.proofs.ContentsLaws.{triples_tied}
use Rattle.reh_model.proofs.Ranges.{list_any-map, list_any-same}
use Rattle.reh_held.specs.Rows.{is_set, entries_in}
use Rattle.reh_held.specs.Tables.{TableValue, row_at, IsTable}
use Rattle.reh_held.specs.Kept.{table_at, rows_in, row_of, copies_from, copies_in, contents_of, words_of}

pub no_entry : (e : ℕ) → is_set [] e ≡ false
no_entry e = ap (λ (b : ℕ). b == 1) (bit_at-zero (e % 64))

-- the entries of a row are those whose bits are set
pub any-entries_in : (words : List ℕ) (e : ℕ) → list_any (nat_eq e) (entries_in words) ≡ is_set words e
any-entries_in words e =
    let n : ℕ = 64 * length words in
    list_any-same (nat_eq e) (eq_by_cmp nat_cmp e) (λ x. sym (unsigned_tied e x)) (entries_in words)
    ∙ any_filtered (is_set words) e 0 n
    ∙ elim (cases_lt e n) [
      | inl within ↦
          ap (λ c. is_set words e && c) (in_range e 0 n (omega arith) (omega arith)) ∙ and_true (is_set words e)
      | inr past ↦
          let none : is_set words e ≡ false =
          ap (λ (w : ℕ). bit_at w (e % 64) == 1) (get_or_past words (e / 64) 0 (omega arith)) ∙ no_entry e in
          ap (λ c. c && list_any (eq_by_cmp nat_cmp e) (range_with_len 0 n)) none ∙ sym none
    ]

pub any-and : {X : Type 0} (c : Bool) (p : X → Bool) (xs : List X) → list_any (λ x. c && p x) xs ≡ (c && list_any p xs)
any-and true p xs = refl
any-and false p [] = refl
any-and false p (x ∷ xs) = any-and false p xs

-- what a row holds
pub any-row : (t : ℕ × ℕ × ℕ) (bookie ledger : ℕ) (row : List ℕ)
    → list_any (eq_by_cmp triple_cmp t) (map (λ e. (bookie, ledger, e)) (entries_in row))
    ≡ ((nat_eq t.0 bookie && nat_eq t.1 ledger) && is_set row t.2)
any-row t bookie ledger row =
    list_any-map (eq_by_cmp triple_cmp t) (λ e. (bookie, ledger, e)) (entries_in row)
    ∙ list_any-same (λ e. eq_by_cmp triple_cmp t (bookie, ledger, e))
    (λ e. (nat_eq t.0 bookie && nat_eq t.1 ledger) && nat_eq t.2 e) (λ e. triples_tied t (bookie, ledger, e))
    (entries_in row)
    ∙ any-and (nat_eq t.0 bookie && nat_eq t.1 ledger) (nat_eq t.2) (entries_in row)
    ∙ ap (λ b. (nat_eq t.0 bookie && nat_eq t.1 ledger) && b) (any-entries_in row t.2)

-- what rows hold, numbered from a bookie on
abbrev held_from : ℕ → List (List ℕ) → ℕ → ℕ → Bool
held_from first rows bookie entry = nat_le first bookie && is_set (get_or rows (bookie - first) []) entry

nothing : (a b : Bool) → b ≡ false → (a && b) ≡ false
nothing true b none = none
nothing false b none = refl

either_false : (a : Bool) → (a || false) ≡ a
either_false true = refl
either_false false = refl

both_in : (a b c : Bool) → ((a && b) && c) ≡ (b && (a && c))
both_in true true c = refl
both_in true false c = refl
both_in false true c = refl
both_in false false c = refl

held_here : (first bookie entry : ℕ) (row : List ℕ) (rows : List (List ℕ)) → bookie ≡ first
    → ((nat_eq bookie first && is_set row entry) || held_from (first + 1) rows bookie entry)
    ≡ held_from first (row ∷ rows) bookie entry
held_here first bookie entry row rows is =
    let same : nat_eq bookie first ≡ true = grind (arith, nat_tests) in
    let reached : nat_le first bookie ≡ true = grind (arith, nat_tests) in
    let before : nat_le (first + 1) bookie ≡ false = grind (arith, nat_tests) in
    let place : bookie - first ≡ 0 = omega arith in
    (λ i. (same i && is_set row entry) || (before i && is_set (get_or rows (bookie - (first + 1)) []) entry))
    ∙ either_false (is_set row entry)
    ∙ sym (ap (λ b. b && is_set (get_or (row ∷ rows) (bookie - first) []) entry) reached
    ∙ ap (λ n. is_set (get_or (row ∷ rows) n []) entry) place)

held_before : (first bookie entry : ℕ) (row : List ℕ) (rows : List (List ℕ)) → bookie < first
    → ((nat_eq bookie first && is_set row entry) || held_from (first + 1) rows bookie entry)
    ≡ held_from first (row ∷ rows) bookie entry
held_before first bookie entry row rows lt =
    let same : nat_eq bookie first ≡ false = grind (arith, nat_tests) in
    let reached : nat_le first bookie ≡ false = grind (arith, nat_tests) in
    let before : nat_le (first + 1) bookie ≡ false = grind (arith, nat_tests) in
    (λ i. (same i && is_set row entry) || (before i && is_set (get_or rows (bookie - (first + 1)) []) entry))
    ∙ sym (ap (λ b. b && is_set (get_or (row ∷ rows) (bookie - first) []) entry) reached)

held_after : (first bookie entry : ℕ) (row : List ℕ) (rows : List (List ℕ)) → first < bookie
    → ((nat_eq bookie first && is_set row entry) || held_from (first + 1) rows bookie entry)
    ≡ held_from first (row ∷ rows) bookie entry
held_after first bookie entry row rows gt =
    let same : nat_eq bookie first ≡ false = grind (arith, nat_tests) in
    let reached : nat_le first bookie ≡ true = grind (arith, nat_tests) in
    let next : nat_le (first + 1) bookie ≡ true = grind (arith, nat_tests) in
    let place : bookie - first ≡ suc (bookie - (first + 1)) = omega arith in
    (λ i. (same i && is_set row entry) || (next i && is_set (get_or rows (bookie - (first + 1)) []) entry))
    ∙ sym (ap (λ b. b && is_set (get_or (row ∷ rows) (bookie - first) []) entry) reached
    ∙ ap (λ n. is_set (get_or (row ∷ rows) n []) entry) place)

held_more : (first bookie entry : ℕ) (row : List ℕ) (rows : List (List ℕ))
    → ((nat_eq bookie first && is_set row entry) || held_from (first + 1) rows bookie entry)
    ≡ held_from first (row ∷ rows) bookie entry
held_more first bookie entry row rows = elim (cases_order bookie first) [
  | inl is ↦ held_here first bookie entry row rows is
  | inr apart ↦ elim apart [
    | inl lt ↦ held_before first bookie entry row rows lt
    | inr gt ↦ held_after first bookie entry row rows gt
  ]
]

both_or : (a b c : Bool) → ((a && b) || (a && c)) ≡ (a && (b || c))
both_or true b c = refl
both_or false b c = refl

pub any-copies_from : (t : ℕ × ℕ × ℕ) (ledger first : ℕ) (rows : List (List ℕ))
    → list_any (eq_by_cmp triple_cmp t) (copies_from ledger first rows)
    ≡ (nat_eq t.1 ledger && held_from first rows t.0 t.2)
any-copies_from t ledger first [] = sym (nothing (nat_eq t.1 ledger) _ (nothing (nat_le first t.0) _ (no_entry t.2)))
any-copies_from t ledger first (row ∷ rows) =
    list_any-append (eq_by_cmp triple_cmp t) (map (λ e. (first, ledger, e)) (entries_in row))
    (copies_from ledger (first + 1) rows)
    ∙ (λ i.
    (any-row t first ledger row ∙ both_in (nat_eq t.0 first) (nat_eq t.1 ledger) (is_set row t.2)) i
    || any-copies_from t ledger (first + 1) rows i)
    ∙ both_or (nat_eq t.1 ledger) (nat_eq t.0 first && is_set row t.2) (held_from (first + 1) rows t.0 t.2)
    ∙ ap (λ b. nat_eq t.1 ledger && b) (held_more first t.0 t.2 row rows)

held_from_first : (rows : List (List ℕ)) (bookie entry : ℕ)
    → held_from 0 rows bookie entry ≡ is_set (get_or rows bookie []) entry
held_from_first rows bookie entry =
    let from : nat_le 0 bookie ≡ true = grind (arith, nat_tests) in
    let place : bookie - 0 ≡ bookie = omega arith in
    ap (λ b. b && is_set (get_or rows (bookie - 0) []) entry) from ∙ ap (λ n. is_set (get_or rows n []) entry) place

one_or_more : (here more held : Bool) → ((here && held) || (more && held)) ≡ ((here || more) && held)
one_or_more true true true = refl
one_or_more true true false = refl
one_or_more true false true = refl
one_or_more true false false = refl
one_or_more false more held = refl

here_same : (here : Bool) (a b : Bool) → (here ≡ true → a ≡ b) → (here && a) ≡ (here && b)
here_same true a b same = same refl
here_same false a b same = refl

pub any-copies_in : (t : ℕ × ℕ × ℕ) (rows : ℕ → List (List ℕ)) (ledgers : List ℕ)
    → list_any (eq_by_cmp triple_cmp t) (copies_in rows ledgers)
    ≡ (list_any (nat_eq t.1) ledgers && is_set (get_or (rows t.1) t.0 []) t.2)
any-copies_in t rows [] = refl
any-copies_in t rows (l ∷ ledgers) =
    let held : Bool = is_set (get_or (rows t.1) t.0 []) t.2 in
    let first : (nat_eq t.1 l && held_from 0 (rows l) t.0 t.2) ≡ (nat_eq t.1 l && held) =
    here_same (nat_eq t.1 l) (held_from 0 (rows l) t.0 t.2) held (λ test.
    let same : l ≡ t.1 = grind (arith, nat_tests) in
    held_from_first (rows l) t.0 t.2 ∙ ap (λ k. is_set (get_or (rows k) t.0 []) t.2) same) in
    list_any-append (eq_by_cmp triple_cmp t) (copies_from l 0 (rows l)) (copies_in rows ledgers)
    ∙ (λ i. (any-copies_from t l 0 (rows l) ∙ first) i || any-copies_in t rows ledgers i)
    ∙ one_or_more (nat_eq t.1 l) (list_any (nat_eq t.1) ledgers) held

-- a ledger that is no key has no table
pub no_table : (tables : List (ℕ × TableValue)) (l : ℕ) → list_any (nat_eq l) (keys_of tables) ≡ false
    → table_at tables l ≡ None
no_table [] l none = refl
no_table (t ∷ tables) l none =
    elim (nat_eq l t.0) as (λ b. nat_eq l t.0 ≡ b → (b || list_any (nat_eq l) (keys_of tables)) ≡ false
    → cond (is_eq (nat_cmp l t.0)) (Some t.1) (table_at tables l) ≡ None) [
      | true ↦ λ here (none : true ≡ false). cc
      | false ↦
          λ apart none. ap (λ b. cond b (Some t.1) (table_at tables l)) (unsigned_tied l t.0 ∙ apart)
          ∙ no_table tables l none
    ] refl none

-- a bookie holds the entries whose bits are set in its row
pub has-contents : (tables : List (ℕ × TableValue)) (b l e : ℕ)
    → has (contents_of tables) b l e ≡ is_set (row_of tables b l) e
has-contents tables b l e =
    let rows : ℕ → List (List ℕ) = λ ledger. rows_in (table_at tables ledger) in
    contains-from_list triples (copies_in rows (keys_of tables)) (b, l, e)
    ∙ any-copies_in (b, l, e) rows (keys_of tables)
    ∙ elim (list_any (nat_eq l) (keys_of tables)) as (λ any. list_any (nat_eq l) (keys_of tables) ≡ any
    → (any && is_set (row_of tables b l) e) ≡ is_set (row_of tables b l) e) [
      | true ↦ λ _. refl
      | false ↦
          λ none.
          sym (ap (λ (o : Option TableValue). is_set (get_or (rows_in o) b []) e) (no_table tables l none) ∙ no_entry e)
    ] refl

-- so contents that have just these are the tables'
pub contents_is : (tables : List (ℕ × TableValue)) (s : Contents)
    → ((b l e : ℕ) → is_set (row_of tables b l) e ≡ has s b l e) → contents_of tables ≡ s
contents_is tables s is = same_set (contents_of tables) s (λ t. has-contents tables t.0 t.1 t.2 ∙ is t.0 t.1 t.2)

-- The words

found_width : (tables : List (ℕ × TableValue)) (l : ℕ)
    → find nat_cmp l (map (λ t. (t.0, t.1.width)) tables) ≡ option_map (λ t. t.width) (table_at tables l)
found_width [] l = refl
found_width (t ∷ tables) l =
    elim (is_eq (nat_cmp l t.0)) as (λ b. cond b (Some t.1.width) (find nat_cmp l (map (λ t. (t.0, t.1.width)) tables))
    ≡ option_map (λ t. t.width) (cond b (Some t.1) (table_at tables l))) [
      | true ↦ refl
      | false ↦ found_width tables l
    ]

pub get-words : (tables : List (ℕ × TableValue)) (l : ℕ)
    → finite.get (words_of tables) l ≡ option_map (λ t. t.width) (table_at tables l)
get-words tables l = get-from_entries nat_cmp_total (map (λ t. (t.0, t.1.width)) tables) l ∙ found_width tables l

pub words_is : (tables : List (ℕ × TableValue)) (w : FinMap nat_cmp ℕ)
    → ((l : ℕ) → option_map (λ t. t.width) (table_at tables l) ≡ finite.get w l) → words_of tables ≡ w
words_is tables w is =
    same_map nat_cmp_total nat_cmp-IsAntisymmetric (words_of tables) w (λ l. get-words tables l ∙ is l)

-- What a look-up found

own_words : (tables : List (ℕ × TableValue)) (l : ℕ)
    → unwrap_or (finite.get (words_of tables) l) 0 ≡ unwrap_or (option_map (λ t. t.width) (table_at tables l)) 0
own_words tables l = ap (λ o. unwrap_or o 0) (get-words tables l)

pub words-found : (tables : List (ℕ × TableValue)) (l : ℕ) (t : TableValue) → Some t ≡ table_at tables l
    → unwrap_or (finite.get (words_of tables) l) 0 ≡ t.width
words-found tables l t found =
    own_words tables l ∙ ap (λ (o : Option TableValue). unwrap_or (option_map (λ t. t.width) o) 0) (sym found)

pub words-none : (tables : List (ℕ × TableValue)) (l : ℕ) → None ≡ table_at tables l
    → unwrap_or (finite.get (words_of tables) l) 0 ≡ 0
words-none tables l none =
    own_words tables l ∙ ap (λ (o : Option TableValue). unwrap_or (option_map (λ t. t.width) o) 0) (sym none)

pub has-found : (tables : List (ℕ × TableValue)) (b l e : ℕ) (t : TableValue) → Some t ≡ table_at tables l
    → has (contents_of tables) b l e ≡ is_set (row_at t b) e
has-found tables b l e t found =
    has-contents tables b l e ∙ ap (λ (o : Option TableValue). is_set (get_or (rows_in o) b []) e) (sym found)

pub has-none : (tables : List (ℕ × TableValue)) (b l e : ℕ) → None ≡ table_at tables l
    → has (contents_of tables) b l e ≡ false
has-none tables b l e none =
    has-contents tables b l e ∙ ap (λ (o : Option TableValue). is_set (get_or (rows_in o) b []) e) (sym none)
    ∙ no_entry e

pub kept_table : {bookies : ℕ} (tables : List (ℕ × TableValue)) (l : ℕ) (t : TableValue)
    → ((l : ℕ) → IfSome (table_at tables l) (IsTable bookies)) → Some t ≡ table_at tables l → IsTable bookies t
kept_table {bookies} tables l t kept found =
    subst (λ (o : Option TableValue). IfSome o (IsTable bookies)) (sym found) (kept l)

pub own_table : {bookies : ℕ} {t : TableValue} → IsTable bookies t → IsTable (length t.rows) t
own_table {bookies} {t} is = subst (λ n. IsTable n t) (sym is.size) is
