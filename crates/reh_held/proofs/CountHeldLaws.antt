-- How many entries a bookie holds is the sum over the tables of how many its rows have.
use Rattle.std.proofs.Common.{◌≡◌, ℕ, zero, suc, ◌+◌, ◌-◌, ◌*◌, ◌<◌, ◌≤◌, Bool, true, false, cond, ◌&&◌, ◌||◌, List, []}
use Rattle.std.proofs.Common.{◌∷◌, ◌++◌, length, map, get_or, refl, sym, ap, subst, ◌∙◌, arith, nat_eq, nat_le, inl}
use Rattle.std.proofs.Common.{inr}
use Rattle.std.specs.Prelude.{◌==◌, count_by, sum_by, All}
use Rattle.std.specs.List.{list_any, filter, range_with_len, AllByRecursion}
use Rattle.std.specs.List.Sorted.{IsStrictlySortedBy}
use Rattle.std.specs.Option.{IfSome, is_some, option_map}
use Rattle.std.specs.declared.option.Option.{Option}
use Rattle.std.specs.declared.option.Option.TheVariants.{Some}
use Rattle.std.specs.declared.cmp.Ordering.TheVariants.{Less}
use Rattle.std.specs.Ordering.{nat_cmp, eq_by_cmp, is_eq}
use Rattle.std.specs.Cmp.{unsigned_tied, nat_cmp_total}
use Rattle.std.specs.FinMap as finite
use Rattle.std.specs.FinMap.{len-empty, len-insert}
use Rattle.std.specs.Map.{keys_of, values_of}
use Rattle.std.proofs.lemmas.Bool.{cases_lt, cases_order}
use Rattle.std.proofs.lemmas.Bool.Decides.{nat_tests}
use Rattle.std.proofs.lemmas.List.Folds.{list_any-append}
use Rattle.std.proofs.lemmas.List.Sums.{sum_by-cons, sum_by-append, sum_by-le, length-filter, count_by-le-length}
use Rattle.std.proofs.lemmas.List.{get_or_past}
use Rattle.std.proofs.lemmas.List.FromFn.{length-range_with_len}
use Rattle.std.proofs.lemmas.List.Elements.{All-nil, All-cons, All-head, All-tail}
use Rattle.reh_types.specs.Sets as set
use Rattle.reh_types.specs.Sets.{triples, triple_cmp, contains-from_list, from_list, items, empty}
use Rattle.reh_types.proofs.BitLaws.{any_filtered}
use Rattle.reh_model.specs.Contents.{count_held}
use Rattle.reh_model.proofs.ContentsLaws.{triples_tied, count_held-insert_new}
use Rattle.reh_model.proofs.Ranges.{list_any-map, list_any-same}
use Rattle.reh_held.specs.Rows.{is_set, entries_in}
use Rattle.reh_held.specs.Tables.{TableValue, row_at, IsTable}
use Rattle.reh_held.specs.Kept.{table_at, rows_in, copies_from, copies_in, contents_of, words_of}
use Rattle.reh_held.proofs.WrittenLaws.{turn_round}
use Rattle.reh_held.proofs.HeldLaws.{any-and, any-row, any-copies_from, any-copies_in, get-words, no_table}

-- Copies with no two equal

abbrev IsNew : ℕ × ℕ × ℕ → List (ℕ × ℕ × ℕ) → Type 0
IsNew t ts = list_any (eq_by_cmp triple_cmp t) ts ≡ false

abbrev AreDistinct : List (ℕ × ℕ × ℕ) → Type 0
AreDistinct [] = Unit {0}
AreDistinct (t ∷ ts) = IsNew t ts × AreDistinct ts

neither : (a b : Bool) → a ≡ false → b ≡ false → (a || b) ≡ false
neither true b is none = cc
neither false b is none = none

either_is : (a b : Bool) → (a || b) ≡ false → (a ≡ false) × (b ≡ false)
either_is true b is = cc
either_is false b is = (refl, is)

distinct-append : (ts us : List (ℕ × ℕ × ℕ)) → AreDistinct ts → AreDistinct us
    → ((t : ℕ × ℕ × ℕ) → list_any (eq_by_cmp triple_cmp t) ts ≡ true → IsNew t us) → AreDistinct (ts ++ us)
distinct-append [] us ds es apart = es
distinct-append (t ∷ ts) us ds es apart = (
  list_any-append (eq_by_cmp triple_cmp t) ts us
      ∙ neither _ _ ds.0 (apart t (ap (λ b. b || list_any (eq_by_cmp triple_cmp t) ts) (itself t))),
  distinct-append ts us ds.1 es (λ u among. apart u (later (eq_by_cmp triple_cmp u t) _ among)),
) where
  itself : (t : ℕ × ℕ × ℕ) → eq_by_cmp triple_cmp t t ≡ true
  itself t =
      let first : nat_eq t.0 t.0 ≡ true = grind (arith, nat_tests) in
      let second : nat_eq t.1 t.1 ≡ true = grind (arith, nat_tests) in
      let third : nat_eq t.2 t.2 ≡ true = grind (arith, nat_tests) in
      triples_tied t t ∙ (λ i. (first i && second i) && third i)

  later : (a b : Bool) → b ≡ true → (a || b) ≡ true
  later true b is = refl
  later false b is = is

-- the count of a set of such copies is their count
count-distinct : (b : ℕ) (ts : List (ℕ × ℕ × ℕ)) → AreDistinct ts
    → count_held (set.from_list {o = triples} ts) b ≡ count_by (λ (t : ℕ × ℕ × ℕ). t.0 == b) ts
unfolding from_list items empty
count-distinct b [] ds = refl
count-distinct b (t ∷ ts) ds =
    count_held-insert_new (set.from_list {o = triples} ts) t.0 t.1 t.2 b (contains-from_list triples ts t ∙ ds.0)
    ∙ ap (λ n. cond (t.0 == b) 1 0 + n) (count-distinct b ts ds.1)
    ∙ sym (sum_by-cons (λ (t : ℕ × ℕ × ℕ). cond (t.0 == b) 1 0) t ts)

past : (e a n : ℕ) → e < a → list_any (eq_by_cmp nat_cmp e) (range_with_len a n) ≡ false
past e a zero lt = refl
past e a (suc n) lt =
    let off : eq_by_cmp nat_cmp e a ≡ false = grind (arith, nat_tests, unsigned_tied e a) in
    ap (λ b. b || list_any (eq_by_cmp nat_cmp e) (range_with_len (a + 1) n)) off ∙ past e (a + 1) n (omega arith)

nothing_of : (a b : Bool) → b ≡ false → (a && b) ≡ false
nothing_of true b none = none
nothing_of false b none = refl

distinct-row : (bookie ledger : ℕ) (p : ℕ → Bool) (a n : ℕ)
    → AreDistinct (map (λ e. (bookie, ledger, e)) (filter p (range_with_len a n)))
distinct-row bookie ledger p a zero = tt
distinct-row bookie ledger p a (suc n) =
    let rest : List ℕ = filter p (range_with_len (a + 1) n) in
    let none : list_any (nat_eq a) rest ≡ false =
    list_any-same (nat_eq a) (eq_by_cmp nat_cmp a) (λ x. sym (unsigned_tied a x)) rest ∙ any_filtered p a (a + 1) n
    ∙ nothing_of (p a) _ (past a (a + 1) n (omega arith)) in
    let new : IsNew (bookie, ledger, a) (map (λ e. (bookie, ledger, e)) rest) =
    list_any-map (eq_by_cmp triple_cmp (bookie, ledger, a)) (λ e. (bookie, ledger, e)) rest
    ∙ list_any-same (λ e. eq_by_cmp triple_cmp (bookie, ledger, a) (bookie, ledger, e))
    (λ e. (nat_eq bookie bookie && nat_eq ledger ledger) && nat_eq a e)
    (λ e. triples_tied (bookie, ledger, a) (bookie, ledger, e)) rest
    ∙ any-and (nat_eq bookie bookie && nat_eq ledger ledger) (nat_eq a) rest
    ∙ nothing_of (nat_eq bookie bookie && nat_eq ledger ledger) _ none in
    elim (p a) as (λ b. AreDistinct (map (λ e. (bookie, ledger, e)) (cond b (a ∷ rest) rest))) [
      | true ↦ (new, distinct-row bookie ledger p (a + 1) n)
      | false ↦ distinct-row bookie ledger p (a + 1) n
    ]

all_three : (a b c : Bool) → ((a && b) && c) ≡ true → (a ≡ true) × (b ≡ true)
all_three true true c is = (refl, refl)
all_three true false c is = cc
all_three false b c is = cc

first_true : (a b : Bool) → (a && b) ≡ true → a ≡ true
first_true true b is = refl
first_true false b is = cc

distinct-from : (ledger first : ℕ) (rows : List (List ℕ)) → AreDistinct (copies_from ledger first rows)
distinct-from ledger first [] = tt
distinct-from ledger first (row ∷ rows) =
    distinct-append (map (λ e. (first, ledger, e)) (entries_in row)) (copies_from ledger (first + 1) rows)
    (distinct-row first ledger (is_set row) 0 (64 * length row)) (distinct-from ledger (first + 1) rows) (λ t among.
    let own =
    all_three (nat_eq t.0 first) (nat_eq t.1 ledger) (is_set row t.2) (sym (any-row t first ledger row) ∙ among) in
    let same : t.0 ≡ first = grind (arith, nat_tests, own.0) in
    let before : nat_le (first + 1) t.0 ≡ false = grind (arith, nat_tests) in
    any-copies_from t ledger (first + 1) rows
    ∙ nothing_of (nat_eq t.1 ledger) _ (ap (λ b. b && is_set (get_or rows (t.0 - (first + 1)) []) t.2) before))

abbrev AreNewKeys : List ℕ → Type 0
AreNewKeys [] = Unit {0}
AreNewKeys (l ∷ ls) = (list_any (nat_eq l) ls ≡ false) × AreNewKeys ls

distinct-in : (rows : ℕ → List (List ℕ)) (ls : List ℕ) → AreNewKeys ls → AreDistinct (copies_in rows ls)
distinct-in rows [] new = tt
distinct-in rows (l ∷ ls) new =
    distinct-append (copies_from l 0 (rows l)) (copies_in rows ls) (distinct-from l 0 (rows l))
    (distinct-in rows ls new.1) (λ t among.
    let own = first_true (nat_eq t.1 l) _ (sym (any-copies_from t l 0 (rows l)) ∙ among) in
    let same : l ≡ t.1 = grind (arith, nat_tests, own) in
    any-copies_in t rows ls
    ∙ ap (λ b. b && is_set (get_or (rows t.1) t.0 []) t.2) (ap (λ k. list_any (nat_eq k) ls) (sym same) ∙ new.0))

-- Their count

count-row : (b bookie ledger : ℕ) (es : List ℕ)
    → count_by (λ (t : ℕ × ℕ × ℕ). t.0 == b) (map (λ e. (bookie, ledger, e)) es) ≡ cond (nat_eq bookie b) (length es) 0
count-row b bookie ledger [] = elim (nat_eq bookie b) as (λ t. ◌≡◌ {A = ℕ} 0 (cond t 0 0)) [
  | true ↦ refl
  | false ↦ refl
]
count-row b bookie ledger (e ∷ es) =
    sum_by-cons (λ (t : ℕ × ℕ × ℕ). cond (t.0 == b) 1 0) (bookie, ledger, e) (map (λ e. (bookie, ledger, e)) es)
    ∙ ap (λ n. cond (nat_eq bookie b) 1 0 + n) (count-row b bookie ledger es)
    ∙ elim (nat_eq bookie b) as (λ t. cond t 1 0 + cond t (length es) 0 ≡ cond t (length (e ∷ es)) 0) [
      | true ↦ omega arith
      | false ↦ omega arith
    ]

entries_of_none : length (entries_in []) ≡ 0
entries_of_none = refl

count-from : (b ledger first : ℕ) (rows : List (List ℕ))
    → count_by (λ (t : ℕ × ℕ × ℕ). t.0 == b) (copies_from ledger first rows)
    ≡ cond (nat_le first b) (length (entries_in (get_or rows (b - first) []))) 0
count-from b ledger first [] = elim (nat_le first b) as (λ t. ◌≡◌ {A = ℕ} 0 (cond t 0 0)) [ true ↦ refl | false ↦ refl ]
count-from b ledger first (row ∷ rows) =
    sum_by-append (λ (t : ℕ × ℕ × ℕ). cond (t.0 == b) 1 0) (map (λ e. (first, ledger, e)) (entries_in row))
    (copies_from ledger (first + 1) rows)
    ∙ (λ i. count-row b first ledger (entries_in row) i + count-from b ledger (first + 1) rows i)
    ∙ elim (cases_order b first) [
      | inl is ↦
          let same : nat_eq first b ≡ true = grind (arith, nat_tests) in
          let before : nat_le (first + 1) b ≡ false = grind (arith, nat_tests) in
          let from : nat_le first b ≡ true = grind (arith, nat_tests) in
          let place : b - first ≡ 0 = omega arith in
          let none : length (entries_in row) + 0 ≡ length (entries_in row) = omega arith in
          (λ i.
          cond (same i) (length (entries_in row)) 0
          + cond (before i) (length (entries_in (get_or rows (b - (first + 1)) []))) 0)
          ∙ none
          ∙ sym (ap (λ t. cond t (length (entries_in (get_or (row ∷ rows) (b - first) []))) 0) from
          ∙ ap (λ n. length (entries_in (get_or (row ∷ rows) n []))) place)
      | inr apart ↦ elim apart [
        | inl lt ↦
            let same : nat_eq first b ≡ false = grind (arith, nat_tests) in
            let before : nat_le (first + 1) b ≡ false = grind (arith, nat_tests) in
            let from : nat_le first b ≡ false = grind (arith, nat_tests) in
            (λ i.
            cond (same i) (length (entries_in row)) 0
            + cond (before i) (length (entries_in (get_or rows (b - (first + 1)) []))) 0)
            ∙ sym (ap (λ t. cond t (length (entries_in (get_or (row ∷ rows) (b - first) []))) 0) from)
        | inr gt ↦
            let same : nat_eq first b ≡ false = grind (arith, nat_tests) in
            let next : nat_le (first + 1) b ≡ true = grind (arith, nat_tests) in
            let from : nat_le first b ≡ true = grind (arith, nat_tests) in
            let place : b - first ≡ suc (b - (first + 1)) = omega arith in
            let rest : ℕ = length (entries_in (get_or rows (b - (first + 1)) [])) in
            let none : 0 + rest ≡ rest = omega arith in
            (λ i. cond (same i) (length (entries_in row)) 0 + cond (next i) rest 0)
            ∙ none
            ∙ sym (ap (λ t. cond t (length (entries_in (get_or (row ∷ rows) (b - first) []))) 0) from
            ∙ ap (λ n. length (entries_in (get_or (row ∷ rows) n []))) place)
      ]
    ]

count-in : (b : ℕ) (rows : ℕ → List (List ℕ)) (ls : List ℕ)
    → count_by (λ (t : ℕ × ℕ × ℕ). t.0 == b) (copies_in rows ls)
    ≡ sum_by (λ l. length (entries_in (get_or (rows l) b []))) ls
count-in b rows [] = refl
count-in b rows (l ∷ ls) =
    let from : nat_le 0 b ≡ true = grind (arith, nat_tests) in
    let place : b - 0 ≡ b = omega arith in
    sum_by-append (λ (t : ℕ × ℕ × ℕ). cond (t.0 == b) 1 0) (copies_from l 0 (rows l)) (copies_in rows ls)
    ∙ (λ i.
    (count-from b l 0 (rows l) ∙ ap (λ t. cond t (length (entries_in (get_or (rows l) (b - 0) []))) 0) from
    ∙ ap (λ n. length (entries_in (get_or (rows l) n []))) place)
    i
    + count-in b rows ls i)
    ∙ sym (sum_by-cons (λ l. length (entries_in (get_or (rows l) b []))) l ls)

-- By the tables

-- each of these is what a look-up finds
abbrev AreFound : List (ℕ × TableValue) → List (ℕ × TableValue) → Type 0
AreFound tables [] = Unit {0}
AreFound tables (t ∷ ts) = (table_at tables t.0 ≡ Some t.1) × AreFound tables ts

found-more : (t : ℕ × TableValue) (tables part : List (ℕ × TableValue))
    → AllByRecursion (λ l. nat_cmp t.0 l ≡ Less) (keys_of part) → AreFound tables part → AreFound (t ∷ tables) part
found-more t tables [] less found = tt
found-more t tables (p ∷ part) less found =
    let apart : eq_by_cmp nat_cmp p.0 t.0 ≡ false = unsigned_tied p.0 t.0 ∙ differ p.0 t.0 less.0 in
    (ap (λ b. cond b (Some t.1) (table_at tables p.0)) apart ∙ found.0, found-more t tables part less.1 found.1) where
      differ : (a b : ℕ) → nat_cmp b a ≡ Less → nat_eq a b ≡ false
      differ a b lt = turn_round a b ∙ sym (unsigned_tied b a) ∙ ap is_eq lt

found-all : (tables : List (ℕ × TableValue)) → IsStrictlySortedBy nat_cmp (keys_of tables) → AreFound tables tables
unfolding IsStrictlySortedBy
found-all [] sorted = tt
found-all (t ∷ tables) sorted =
    let itself : eq_by_cmp nat_cmp t.0 t.0 ≡ true = unsigned_tied t.0 t.0 ∙ grind (arith, nat_tests) in (
      ap (λ b. cond b (Some t.1) (table_at tables t.0)) itself,
      found-more t tables tables sorted.0 (found-all tables sorted.1),
    )

new-keys : (ls : List ℕ) → IsStrictlySortedBy nat_cmp ls → AreNewKeys ls
unfolding IsStrictlySortedBy
new-keys [] sorted = tt
new-keys (l ∷ ls) sorted = (none l ls sorted.0, new-keys ls sorted.1) where
  differ : (a b : ℕ) → nat_cmp a b ≡ Less → nat_eq a b ≡ false
  differ a b lt = sym (unsigned_tied a b) ∙ ap is_eq lt

  none : (l : ℕ) (ls : List ℕ) → AllByRecursion (λ k. nat_cmp l k ≡ Less) ls → list_any (nat_eq l) ls ≡ false
  none l [] less = refl
  none l (k ∷ ls) less = neither (nat_eq l k) _ (differ l k less.0) (none l ls less.1)

-- there are as many words as tables
pub len-words_of : (tables : List (ℕ × TableValue)) → IsStrictlySortedBy nat_cmp (keys_of tables)
    → finite.len (words_of tables) ≡ length tables
len-words_of tables sorted = different tables (new-keys (keys_of tables) sorted) where
  different : (tables : List (ℕ × TableValue)) → AreNewKeys (keys_of tables)
      → finite.len (words_of tables) ≡ length tables
  different [] new = len-empty nat_cmp ℕ
  different (t ∷ tables) new =
      let none : finite.contains_key (words_of tables) t.0 ≡ false =
      ap is_some (get-words tables t.0 ∙ ap (option_map (λ t. t.width)) (no_table tables t.0 new.0)) in
      let one_more : finite.len (words_of (t ∷ tables)) ≡ finite.len (words_of tables) + 1 =
      len-insert nat_cmp_total (words_of tables) t.0 t.1.width
      ∙ ap (λ b. cond b (finite.len (words_of tables)) (finite.len (words_of tables) + 1)) none in
      omega (arith, one_more, different tables new.1)

-- how many entries the bookie's row has
abbrev pub row_count : ℕ → TableValue → ℕ
row_count b t = length (entries_in (row_at t b))

sum-found : (b : ℕ) (tables part : List (ℕ × TableValue)) → AreFound tables part
    → sum_by (λ l. length (entries_in (get_or (rows_in (table_at tables l)) b []))) (keys_of part)
    ≡ sum_by (row_count b) (values_of part)
sum-found b tables [] found = refl
sum-found b tables (t ∷ part) found =
    sum_by-cons (λ l. length (entries_in (get_or (rows_in (table_at tables l)) b []))) t.0 (keys_of part)
    ∙ (λ i. length (entries_in (get_or (rows_in (found.0 i)) b [])) + sum-found b tables part found.1 i)
    ∙ sym (sum_by-cons (row_count b) t.1 (values_of part))

pub count-tables : (b : ℕ) (tables : List (ℕ × TableValue)) → IsStrictlySortedBy nat_cmp (keys_of tables)
    → count_held (contents_of tables) b ≡ sum_by (row_count b) (values_of tables)
count-tables b tables sorted =
    let rows : ℕ → List (List ℕ) = λ l. rows_in (table_at tables l) in
    count-distinct b (copies_in rows (keys_of tables))
    (distinct-in rows (keys_of tables) (new-keys (keys_of tables) sorted))
    ∙ count-in b rows (keys_of tables)
    ∙ sum-found b tables tables (found-all tables sorted)

-- what each table is
all-found : (P : TableValue → Type 0) (tables part : List (ℕ × TableValue)) → ((l : ℕ) → IfSome (table_at tables l) P)
    → AreFound tables part → All P (values_of part)
all-found P tables [] kept found = All-nil P
all-found P tables (t ∷ part) kept found =
    All-cons P t.1 (values_of part) (subst (λ (o : Option TableValue). IfSome o P) found.0 (kept t.0))
    (all-found P tables part kept found.1)

pub all-tables : (P : TableValue → Type 0) (tables : List (ℕ × TableValue))
    → IsStrictlySortedBy nat_cmp (keys_of tables) → ((l : ℕ) → IfSome (table_at tables l) P) → All P (values_of tables)
all-tables P tables sorted kept = all-found P tables tables kept (found-all tables sorted)

-- The loop

-- the count so far, and what is left
pub record IsCounting (bookies bookie total : ℕ) (left : List TableValue) (count : ℕ) : Type 0 where
  pub each : All (IsTable bookies) left
  pub sum : count + sum_by (row_count bookie) left ≡ total
  pub small : total ≤ 9223372036854775808

row_small : (b bookies : ℕ) (t : TableValue) → IsTable bookies t → row_count b t ≤ 4294967296
row_small b bookies t is =
    let row : List ℕ = row_at t b in
    let counted : row_count b t ≤ 64 * length row =
    omega (
      arith,
      length-filter (is_set row) (range_with_len 0 (64 * length row)),
      count_by-le-length (is_set row) (range_with_len 0 (64 * length row)),
      length-range_with_len 0 (64 * length row),
    ) in
    elim (cases_lt b bookies) [
      | inl within ↦ omega (arith, counted, is.widths b within, is.small)
      | inr out ↦
          let none : length row ≡ 0 = ap (length {A = ℕ}) (get_or_past t.rows b [] (omega (arith, is.size))) in
          omega (arith, counted, none)
    ]

-- a fact of each is one of each, weakened
All-weaker : (P Q : TableValue → Type 0) (ts : List TableValue) → ((t : TableValue) → P t → Q t) → All P ts → All Q ts
All-weaker P Q [] gives all = All-nil Q
All-weaker P Q (t ∷ ts) gives all =
    All-cons Q t ts (gives t (All-head P t ts all)) (All-weaker P Q ts gives (All-tail P t ts all))

pub counting-none : (bookies bookie total : ℕ) (tables : List TableValue) → length tables ≤ 2147483648
    → All (IsTable bookies) tables → total ≡ sum_by (row_count bookie) tables
    → IsCounting bookies bookie total tables 0
counting-none bookies bookie total tables few each is =
    let small =
    sum_by-le (row_count bookie) 4294967296 tables
    (All-weaker (IsTable bookies) (λ t. row_count bookie t ≤ 4294967296) tables (λ t is. row_small bookie bookies t is)
    each) in
    record { each = each; sum = omega (arith, is); small = omega (arith, is, small) }

pub counting-table : {bookies bookie total : ℕ} {left : List TableValue} {count : ℕ} (t : TableValue)
    (rest : List TableValue) → left ≡ t ∷ rest → IsCounting bookies bookie total left count → IsTable bookies t
counting-table {bookies} t rest is counting =
    All-head (IsTable bookies) t rest (subst (All (IsTable bookies)) is counting.each)

pub counting-more : {bookies bookie total : ℕ} {left : List TableValue} {count : ℕ} (t : TableValue)
    (rest : List TableValue) (n : ℕ) → left ≡ t ∷ rest → n ≡ row_count bookie t
    → IsCounting bookies bookie total left count → IsCounting bookies bookie total rest (count + n)
counting-more {bookies} {bookie} {total} {left} {count} t rest n is counted counting = record {
  each = All-tail (IsTable bookies) t rest (subst (All (IsTable bookies)) is counting.each);
  sum = omega (arith, ap (sum_by (row_count bookie)) is, sum_by-cons (row_count bookie) t rest, counting.sum, counted);
  small = counting.small;
}

pub counting-fits : {bookies bookie total : ℕ} {left : List TableValue} {count : ℕ} (t : TableValue)
    (rest : List TableValue) (n : ℕ) → left ≡ t ∷ rest → n ≡ row_count bookie t
    → IsCounting bookies bookie total left count → count + n ≤ 9223372036854775808
counting-fits {bookies} {bookie} {total} {left} {count} t rest n is counted counting =
    omega (
      arith,
      ap (sum_by (row_count bookie)) is,
      sum_by-cons (row_count bookie) t rest,
      counting.sum,
      counting.small,
      counted,
    )

pub counting-all : {bookies bookie total : ℕ} {left : List TableValue} {count : ℕ} → left ≡ []
    → IsCounting bookies bookie total left count → count ≡ total
counting-all {bookies} {bookie} {total} {left} {count} none counting =
    omega (arith, ap (sum_by (row_count bookie)) none, counting.sum)
