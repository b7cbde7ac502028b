-- Ranges in order, and tests of all numbers of a range.
use Rattle.std.proofs.Common.{◌≡◌, ◌∙◌, ◌+◌, ◌<◌, ◌≤◌, ◌&&◌, ℕ, suc, ◌-◌, Bool, cond, drop, Some, true, false, List, get_or, length, nat_le, nat_lt, ap, sym, arith, inl, inr}
use Rattle.std.specs.Prelude.{find}
use Rattle.std.specs.List.{AllAdjacentBelow, list_all, list_any, range_with_len}
use Rattle.std.proofs.lemmas.Bool.{cases_lt}
use Rattle.std.proofs.lemmas.Bool.Decides.{nat_tests}
use Rattle.std.proofs.lemmas.List.{get_or_default}
use Rattle.std.proofs.lemmas.List.Folds.{list_any_at, list_any_none}
use Rattle.std.proofs.lemmas.List.Sorted.{IsNonDecreasingBy-from_all_adjacent}
use Rattle.std.proofs.lemmas.List.Folds.{list_all-append}
use Rattle.std.proofs.Common.{add-one}
use Rattle.std.proofs.Math.Seq.{drop-cons}
use Rattle.reh_census.proofs.RangeLaws.{one_fails, range-append}
use Rattle.reh_cut.specs.Ranges.{AreInOrder, is_within}

-- each range and the next are in order
abbrev pub are_next : ℕ × ℕ → ℕ × ℕ → Bool
are_next range next = nat_le range.0 next.0 && nat_le range.1 next.1

both : (a b c d : ℕ) → true ≡ (nat_le a b && nat_le c d) → (a ≤ b) × (c ≤ d)
both a b c d is = (grind (arith, nat_tests), grind (arith, nat_tests))

pub in-order : (ranges : List (ℕ × ℕ)) → AllAdjacentBelow (λ x y. true ≡ are_next x y) ranges (length ranges) → AreInOrder ranges
in-order ranges adjacent = record {
  firsts = IsNonDecreasingBy-from_all_adjacent (λ range. range.0) ranges (λ k d within. (both _ _ _ _ (adjacent k d within)).0);
  lasts = IsNonDecreasingBy-from_all_adjacent (λ range. range.1) ranges (λ k d within. (both _ _ _ _ (adjacent k d within)).1);
}

ended : (first last entry : ℕ) → nat_lt last entry ≡ true → (nat_le first entry && nat_le entry last) ≡ false
ended first last entry before = grind (arith, nat_tests)

later : (first last entry : ℕ) → entry < first → (nat_le first entry && nat_le entry last) ≡ false
later first last entry before = grind (arith, nat_tests)

around : (first last entry : ℕ) → first ≤ entry → nat_lt last entry ≡ false → (nat_le first entry && nat_le entry last) ≡ true
around first last entry from upto = grind (arith, nat_tests)

begun : (first entry : ℕ) → first ≤ entry → nat_le first entry ≡ true
begun first entry from = grind (arith, nat_tests)

not-begun : (first entry : ℕ) → entry < first → nat_le first entry ≡ false
not-begun first entry before = grind (arith, nat_tests)

-- of ranges that are in order, the first that doesn't end before the entry decides
pub first-decides : (ranges : List (ℕ × ℕ)) (place entry : ℕ) (d : ℕ × ℕ) → AreInOrder ranges → place < length ranges
    → ((k : ℕ) (e : ℕ × ℕ) → 0 ≤ k → k < place → nat_lt (get_or ranges k e).1 entry ≡ true)
    → ((k : ℕ) (e : ℕ × ℕ) → place ≤ k → k < length ranges → nat_lt (get_or ranges k e).1 entry ≡ false)
    → nat_le (get_or ranges place d).0 entry ≡ list_any (is_within entry) ranges
first-decides ranges place entry d order within before after = elim (cases_lt entry (get_or ranges place d).0) [
  | inl early ↦
      not-begun (get_or ranges place d).0 entry early
      ∙ sym (list_any_none (is_within entry) ranges (λ k e inside. elim (cases_lt k place) [
        | inl below ↦ ended _ _ entry (before k e (omega arith) below)
        | inr above ↦
            later _ _ entry
            (omega (arith, early, order.firsts place k e above inside, ap (λ (r : ℕ × ℕ). r.0) (get_or_default ranges place d e within)))
      ]))
  | inr from ↦
      begun (get_or ranges place d).0 entry from
      ∙ sym (list_any_at (is_within entry) ranges place d within (around _ _ entry from (after place d (omega arith) within)))
]

-- where each range ends before the entry, none has it
pub all-ended : (ranges : List (ℕ × ℕ)) (place entry : ℕ) → place ≡ length ranges
    → ((k : ℕ) (e : ℕ × ℕ) → 0 ≤ k → k < place → nat_lt (get_or ranges k e).1 entry ≡ true)
    → false ≡ list_any (is_within entry) ranges
all-ended ranges place entry all before =
    sym (list_any_none (is_within entry) ranges (λ k e inside. ended _ _ entry (before k e (omega arith) (omega (arith, all, inside)))))

-- Tests of all numbers of a range

-- one number more passes
pub next_passes : (p : ℕ → Bool) (n : ℕ) → list_all p (range_with_len 0 n) ≡ true → p n ≡ true
    → list_all p (range_with_len 0 (n + 1)) ≡ true
next_passes p n before passes =
    let at : 0 + n ≡ n = omega arith in
    ap (list_all p) (range-append 0 n 1)
    ∙ list_all-append p (range_with_len 0 n) (range_with_len (0 + n) 1)
    ∙ ap (λ b. b && list_all p (range_with_len (0 + n) 1)) before
    ∙ ap (λ b. b && true) (ap p at ∙ passes)

pub next_from : (p : ℕ → Bool) (a k : ℕ) → a ≤ k → list_all p (range_with_len a (k - a)) ≡ true → p k ≡ true
    → list_all p (range_with_len a (k + 1 - a)) ≡ true
next_from p a k above before passes =
    let long : k + 1 - a ≡ (k - a) + 1 = omega (arith, above) in
    let at : a + (k - a) ≡ k = omega (arith, above) in
    ap (λ n. list_all p (range_with_len a n)) long
    ∙ ap (list_all p) (range-append a (k - a) 1)
    ∙ list_all-append p (range_with_len a (k - a)) (range_with_len (a + (k - a)) 1)
    ∙ ap (λ b. b && list_all p (range_with_len (a + (k - a)) 1)) before
    ∙ ap (λ b. b && true) (ap p at ∙ passes)

-- some number fails
pub fails_at : (p : ℕ → Bool) (n k : ℕ) → k < n → p k ≡ false → list_all p (range_with_len 0 n) ≡ false
fails_at p n k within fails = one_fails p 0 n k (omega arith) (omega (arith, within)) fails

-- The first that passes

-- of elements of which the first passes
pub found_at : {X : Type 0} (p : X → Bool) (xs : List X) (i : ℕ) (d : X) → i < length xs → p (get_or xs i d) ≡ true
    → find p (drop i xs) ≡ Some (get_or xs i d)
found_at p xs i d within passes =
    ap (find p) (drop-cons xs i d within)
    ∙ ap (λ b. cond b (Some (get_or xs i d)) (find p (drop (suc i) xs))) passes

-- of elements of which the first fails
pub passed_over : {X : Type 0} (p : X → Bool) (xs : List X) (i : ℕ) (d : X) → i < length xs → p (get_or xs i d) ≡ false
    → find p (drop (i + 1) xs) ≡ find p (drop i xs)
passed_over p xs i d within fails =
    ap (λ k. find p (drop k xs)) (add-one i)
    ∙ sym (ap (find p) (drop-cons xs i d within)
    ∙ ap (λ b. cond b (Some (get_or xs i d)) (find p (drop (suc i) xs))) fails)
