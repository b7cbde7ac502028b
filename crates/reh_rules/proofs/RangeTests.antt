-- Tests of some number of a range, and sums over what is counted.
use Rattle.std.proofs.Common.{◌≡◌, ◌∙◌, ◌+◌, ◌<◌, ◌≤◌, ◌||◌, cond, ℕ, zero, suc, Bool, true, false, List, refl, ap, length, take, get_or, arith, inl, inr}
use Rattle.std.specs.Prelude.{sum_by}
use Rattle.std.specs.List.{list_any, range_with_len}
use Rattle.std.proofs.lemmas.Bool.{cases_lt}
use Rattle.std.proofs.lemmas.List.Sums.{sum_by_more_le_part}

pub none_passes : (p : ℕ → Bool) (a n : ℕ) → ((k : ℕ) → a ≤ k → k < a + n → p k ≡ false) → list_any p (range_with_len a n) ≡ false
none_passes p a zero each = refl
none_passes p a (suc n) each =
    λ i. (each a (omega arith) (omega arith) ∙ refl) i || none_passes p (a + 1) n (λ k above below. each k (omega arith) (omega arith)) i

pub one_passes : (p : ℕ → Bool) (a n k : ℕ) → a ≤ k → k < a + n → p k ≡ true → list_any p (range_with_len a n) ≡ true
one_passes p a zero k from below hit = absurd (omega arith)
one_passes p a (suc n) k from below hit =
    elim (cases_lt a k) [
      | inl later ↦ ap (λ b. p a || b) (one_passes p (a + 1) n k (omega arith) (omega arith) hit) ∙ ever (p a)
      | inr here ↦ let same : a ≡ k = omega arith in ap (λ b. b || list_any p (range_with_len (a + 1) n)) (ap p same ∙ hit)
    ] where
      ever : (b : Bool) → (b || true) ≡ true
      ever true = refl
      ever false = refl

pub some_count : (b : Bool) (n : ℕ) → cond b n 0 ≤ n
some_count true n = omega arith
some_count false n = omega arith

-- what passes a test, of so many that are passed, and one more, are within all
pub counted-fits : {X : Type 0} (items : List X) (count : X → ℕ) (test : X → Bool) (i : ℕ) (x : X) → i < length items
    → sum_by (λ y. cond (test y) (count y) 0) (take i items) + count (get_or items i x) ≤ sum_by count items
counted-fits items count test i x within =
    sum_by_more_le_part (λ y. cond (test y) (count y) 0) count items i x within (λ y. some_count (test y) (count y))
