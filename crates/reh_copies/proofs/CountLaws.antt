-- How many bookies hold an entry.
use Rattle.std.proofs.Common.{◌≡◌, ℕ, zero, suc, ◌+◌, ◌-◌, ◌<◌, ◌≤◌, Bool, true, false, cond, ◌&&◌, ◌||◌, List, [], ◌∷◌, map, length, refl, sym, ap, ◌∙◌, arith, inl, inr}
use Rattle.std.specs.Prelude.{◌==◌, count_by, nat_eq, slice_index, sum_by}
use Rattle.std.specs.List.{IsDistinct, list_any, range_with_len}
use Rattle.std.proofs.lemmas.Bool.{cases_lt, false_from_ne_true}
use Rattle.std.proofs.lemmas.Bool.Decides.{Decides-eqb, nat_tests}
use Rattle.std.proofs.lemmas.List.Sums.{sum_by-cons}
use Rattle.std.proofs.lemmas.Map.Made.{AllPairs-from_IsDistinct}
use Rattle.std.proofs.lemmas.Nat.{mod_below}
use Rattle.reh_census.specs.Copies.{EachOnce}
use Rattle.reh_census.proofs.CountLaws.{count-cons}
use Rattle.reh_census.proofs.OnceLaws.{once-first}
use Rattle.reh_model.specs.Metadata.{Fragment, IsEnsemble, Metadata, writes}
use Rattle.reh_model.specs.Striping.{index_at, range, write_set}
use Rattle.reh_model.proofs.StripingLaws.{rank_of-index_at}
use Rattle.reh_copies.proofs.CopyLaws.{and_false, first_true, second_true}

pub sum_by-map : {X Y : Type 0} (f : Y → ℕ) (h : X → Y) (xs : List X) → sum_by f (map h xs) ≡ sum_by (λ x. f (h x)) xs
sum_by-map f h [] = refl
sum_by-map f h (x ∷ xs) =
    sum_by-cons f (h x) (map h xs) ∙ ap (λ n. f (h x) + n) (sum_by-map f h xs)
    ∙ sym (sum_by-cons (λ x. f (h x)) x xs)

-- Ranges

-- tests that give the same answers along a range
count_same : (p q : ℕ → Bool) (a k : ℕ) → ((b : ℕ) → a ≤ b → b < a + k → p b ≡ q b)
    → count_by p (range_with_len a k) ≡ count_by q (range_with_len a k)
count_same p q a zero same = refl
count_same p q a (suc k) same =
    count-cons p a (range_with_len (a + 1) k)
    ∙ (λ i. cond (same a (omega arith) (omega arith) i) 1 0
    + count_same p q (a + 1) k (λ b from below. same b (omega (arith, from)) (omega (arith, below))) i)
    ∙ sym (count-cons q a (range_with_len (a + 1) k))

count_none : (p : ℕ → Bool) (a k : ℕ) → ((b : ℕ) → a ≤ b → b < a + k → p b ≡ false) → count_by p (range_with_len a k) ≡ 0
count_none p a zero none = refl
count_none p a (suc k) none =
    count-cons p a (range_with_len (a + 1) k)
    ∙ (λ i. cond (none a (omega arith) (omega arith) i) 1 0
    + count_none p (a + 1) k (λ b from below. none b (omega (arith, from)) (omega (arith, below))) i)

-- a test that one number of the range may pass
count_one : (p : ℕ → Bool) (a k x : ℕ) → a ≤ x → x < a + k → ((b : ℕ) → p b ≡ true → b ≡ x)
    → count_by p (range_with_len a k) ≡ cond (p x) 1 0
count_one p a zero x from below only = absurd (omega (arith, from, below))
count_one p a (suc k) x from below only = elim (cases_lt a x) [
  | inl later ↦
      let other : p a ≡ false = false_from_ne_true (p a) (λ hit. absurd (omega (arith, later, only a hit))) in
      let inside : x < (a + 1) + k = omega (arith, below) in
      count-cons p a (range_with_len (a + 1) k)
      ∙ (λ i. cond (other i) 1 0 + count_one p (a + 1) k x (omega (arith, later)) inside only i)
      ∙ none_more (cond (p x) 1 0)
  | inr least ↦
      let same : a ≡ x = omega (arith, from, least) in
      count-cons p a (range_with_len (a + 1) k)
      ∙ (λ i. cond (p (same i)) 1 0
      + count_none p (a + 1) k (λ b above _.
      false_from_ne_true (p b) (λ hit. absurd (omega (arith, above, same, only b hit)))) i)
      ∙ more_none (cond (p x) 1 0)
] where
  none_more : (n : ℕ) → 0 + n ≡ n
  none_more n = omega arith

  more_none : (n : ℕ) → n + 0 ≡ n
  more_none n = omega arith

-- Members

-- two tests that no element passes both
count_apart : {X : Type 0} (p q t : X → Bool) → ((x : X) → cond (t x) 1 0 ≡ cond (p x) 1 0 + cond (q x) 1 0)
    → (xs : List X) → count_by t xs ≡ count_by p xs + count_by q xs
count_apart p q t each [] = refl
count_apart p q t each (x ∷ xs) =
    omega (arith, count-cons t x xs, count-cons p x xs, count-cons q x xs, each x, count_apart p q t each xs)

either : (a here later : Bool) → (here ≡ true → later ≡ false)
    → cond (a && (here || later)) 1 0 ≡ cond (a && here) 1 0 + cond (a && later) 1 0
either false here later apart = refl
either true true later apart = sym (ap (λ c. 1 + cond c 1 0) (apart refl))
either true false true apart = refl
either true false false apart = refl

and_true : (a : Bool) → (a && true) ≡ a
and_true true = refl
and_true false = refl

-- of the first n numbers, among which are all that pass a test
module _ (n : ℕ) (q : ℕ → Bool) (low : (b : ℕ) → q b ≡ true → b < n) where
  one_member : (x : ℕ) → count_by (λ b. q b && (x == b)) (range_with_len 0 n) ≡ cond (q x) 1 0
  one_member x = elim (cases_lt x n) [
    | inl below ↦
        let inside : x < 0 + n = omega (arith, below) in
        let itself : (x == x) ≡ true = grind (arith, nat_tests) in
        count_one (λ b. q b && (x == b)) 0 n x (omega arith) inside (λ b hit.
        let here : (x == b) ≡ true = second_true (q b) (x == b) hit in
        let same : b ≡ x = grind (arith, nat_tests, here) in same)
        ∙ ap (λ c. cond c 1 0) (ap (λ c. q x && c) itself ∙ and_true (q x))
    | inr past ↦
        let fails : q x ≡ false = false_from_ne_true (q x) (λ hit. absurd (omega (arith, past, low x hit))) in
        count_none (λ b. q b && (x == b)) 0 n (λ b _ below.
        let apart : (x == b) ≡ false = grind (arith, nat_tests, past, below) in
        ap (λ c. q b && c) apart ∙ and_false (q b))
        ∙ sym (ap (λ c. cond c 1 0) fails)
  ]

  -- as many of them are members of a list and pass as there are members that pass
  members_counted : (members : List ℕ) → EachOnce members
      → count_by (λ b. q b && list_any (λ m. m == b) members) (range_with_len 0 n) ≡ count_by q members
  members_counted [] once = count_none (λ b. q b && false) 0 n (λ b _ _. and_false (q b))
  members_counted (x ∷ members) once =
      let first = once-first x members once in
      count_apart (λ b. q b && (x == b)) (λ b. q b && list_any (λ m. m == b) members)
      (λ b. q b && ((x == b) || list_any (λ m. m == b) members))
      (λ b. either (q b) (x == b) (list_any (λ m. m == b) members) (λ here.
      let same : x ≡ b = grind (arith, nat_tests, here) in
      ap (λ c. list_any (λ m. m == c) members) (sym same) ∙ first.0))
      (range_with_len 0 n)
      ∙ (λ i. one_member x i + members_counted members first.1 i)
      ∙ sym (count-cons q x members)

turned : (a c k : Bool) → (a && (c && k)) ≡ ((a && k) && c)
turned false c k = refl
turned true true k = sym (and_true k)
turned true false k = sym (and_false k)

-- and as many of them are registered, members, and hold the entry
pub members_known : (n : ℕ) (up holds : ℕ → Bool) (members : List ℕ) → EachOnce members → ((b : ℕ) → up b ≡ true → b < n)
    → count_by (λ b. up b && (list_any (λ m. m == b) members && holds b)) (range_with_len 0 n)
    ≡ count_by (λ m. up m && holds m) members
members_known n up holds members once low =
    count_same (λ b. up b && (list_any (λ m. m == b) members && holds b))
    (λ b. (up b && holds b) && list_any (λ m. m == b) members) 0 n
    (λ b _ _. turned (up b) (list_any (λ m. m == b) members) (holds b))
    ∙ members_counted n (λ b. up b && holds b) (λ b both. low b (first_true (up b) (holds b) both)) members once

-- Write sets

-- where different ranks give different members
once_made : (f : ℕ → ℕ) (b a k : ℕ)
    → ((i j : ℕ) → a ≤ i → i < a + k → a ≤ j → j < a + k → f i ≡ f j → i ≡ j)
    → count_by (λ j. f j == b) (range_with_len a k) ≤ 1
once_made f b a zero apart = omega arith
once_made f b a (suc k) apart =
    elim (f a == b) as (λ t. (f a == b) ≡ t → count_by (λ j. f j == b) (range_with_len a (suc k)) ≤ 1) [
      | true ↦ λ here.
          let first : f a ≡ b = grind (arith, nat_tests, here) in
          let rest : count_by (λ j. f j == b) (range_with_len (a + 1) k) ≡ 0 =
          count_none (λ j. f j == b) (a + 1) k (λ j above below. false_from_ne_true (f j == b) (λ hit.
          let other : f j ≡ b = grind (arith, nat_tests, hit) in
          let same : a ≡ j = apart a j (omega arith) (omega arith) (omega (arith, above)) (omega (arith, below)) (first ∙ sym other) in
          absurd (omega (arith, above, same)))) in
          let one : ◌≡◌ {A = ℕ} (cond (f a == b) 1 0) 1 = ap (λ c. cond c 1 0) here in
          omega (arith, count-cons (λ j. f j == b) a (range_with_len (a + 1) k), rest, one)
      | false ↦ λ other.
          let none : ◌≡◌ {A = ℕ} (cond (f a == b) 1 0) 0 = ap (λ c. cond c 1 0) other in
          omega (
            arith,
            count-cons (λ j. f j == b) a (range_with_len (a + 1) k),
            none,
            once_made f b (a + 1) k (λ i j i_from i_below j_from j_below same.
                apart i j (omega (arith, i_from)) (omega (arith, i_below)) (omega (arith, j_from)) (omega (arith, j_below)) same),
          )
    ] refl

-- different places of a list of different numbers hold different numbers
same_places : (xs : List ℕ) → IsDistinct nat_eq xs → (i j : ℕ) → i < length xs → j < length xs
    → slice_index xs i ≡ slice_index xs j → i ≡ j
same_places xs different i j i_in j_in same = elim (cases_lt i j) [
  | inl below ↦ absurd (AllPairs-from_IsDistinct Decides-eqb xs different i j 0 below j_in same)
  | inr past ↦ elim (cases_lt j i) [
    | inl below ↦ absurd (AllPairs-from_IsDistinct Decides-eqb xs different j i 0 below i_in (sym same))
    | inr equal ↦ omega (arith, past, equal)
  ]
]

-- no member of a write set is in it twice
pub EachOnce-writes : (m : Metadata) (fragment : Fragment) (entry : ℕ) → IsEnsemble m.size fragment.ensemble
    → 1 ≤ m.size → m.write_quorum ≤ m.size → EachOnce (writes m fragment entry)
EachOnce-writes m fragment entry ensemble some within b =
    let member : ℕ → ℕ = λ j. slice_index fragment.ensemble (index_at entry m.size j) in
    let made : count_by (λ x. x == b) (writes m fragment entry) ≡ count_by (λ j. member j == b) (range 0 m.write_quorum) =
    sum_by-map (λ x. cond (x == b) 1 0) (λ i. slice_index fragment.ensemble i) (write_set entry m.size m.write_quorum)
    ∙ sum_by-map (λ i. cond (slice_index fragment.ensemble i == b) 1 0) (index_at entry m.size) (range 0 m.write_quorum) in
    omega (
      arith,
      made,
      once_made member b 0 (m.write_quorum - 0) (λ i j _ i_below _ j_below same.
          let i_low : i < m.size = omega (arith, i_below, within) in
          let j_low : j < m.size = omega (arith, j_below, within) in
          let i_in : index_at entry m.size i < m.size = mod_below (entry + i) m.size some in
          let j_in : index_at entry m.size j < m.size = mod_below (entry + j) m.size some in
          let index : index_at entry m.size i ≡ index_at entry m.size j =
          same_places fragment.ensemble ensemble.different (index_at entry m.size i) (index_at entry m.size j)
          (omega (arith, i_in, ensemble.whole)) (omega (arith, j_in, ensemble.whole)) same in
          sym (rank_of-index_at entry (index_at entry m.size j) m.size i i_low index)
          ∙ rank_of-index_at entry (index_at entry m.size j) m.size j j_low refl),
    )
