-- Entries of a range by their remainders: whole rounds, and a part of one.
use Rattle.std.proofs.Common.{◌≡◌, ◌∙◌, ◌+◌, ◌-◌, ◌*◌, ◌/◌, ◌%◌, ◌<◌, ◌≤◌, cond, ℕ, zero, suc, Bool, true, false, [], nat_lt, refl, ap, sym, arith, inl, inr}
use Rattle.std.specs.Prelude.{count_by, sum_by, min}
use Rattle.std.specs.List.{range_with_len}
use Rattle.std.proofs.lemmas.Bool.{cases_lt}
use Rattle.std.proofs.lemmas.Bool.Decides.{nat_tests}
use Rattle.std.proofs.lemmas.Nat.{div-add-mod', mod_below}
use Rattle.std.proofs.Math.Nat.{add-mod_right}
use Rattle.std.proofs.lemmas.List.Sums.{sum_by-append, sum_by-cons}
use Rattle.reh_census.specs.Striping.{range}
use Rattle.reh_census.proofs.CountLaws.{count-append, count-cons}
use Rattle.reh_census.proofs.RangeLaws.{range-append}

pub sum-more : (f : ℕ → ℕ) (a n : ℕ) → sum_by f (range_with_len a (n + 1)) ≡ sum_by f (range_with_len a n) + f (a + n)
sum-more f a n =
    let none : f (a + n) + 0 ≡ f (a + n) = omega arith in
    ap (λ xs. sum_by f xs) (range-append a n 1)
    ∙ sum_by-append f (range_with_len a n) (range_with_len (a + n) 1)
    ∙ ap (λ k. sum_by f (range_with_len a n) + k) (sum_by-cons f (a + n) [] ∙ none)

-- how many entries have remainders that pass a test
abbrev counted : (ℕ → Bool) → ℕ → ℕ → ℕ → ℕ
counted test w a n = count_by (λ e. test (e % w)) (range_with_len a n)

counted-more : (test : ℕ → Bool) (w a n : ℕ) → counted test w a (n + 1) ≡ counted test w a n + cond (test ((a + n) % w)) 1 0
counted-more test w a n = sum-more (λ e. cond (test (e % w)) 1 0) a n

-- a round later the same
counted-later : (test : ℕ → Bool) (w a n : ℕ) → counted test w (a + w) n ≡ counted test w a n
counted-later test w a zero = refl
counted-later test w a (suc n) =
    let next : (a + w) + 1 ≡ (a + 1) + w = omega arith in
    count-cons (λ e. test (e % w)) (a + w) (range_with_len ((a + w) + 1) n)
    ∙ (λ i. cond (test (add-mod_right a w i)) 1 0 + (ap (λ k. counted test w k n) next ∙ counted-later test w (a + 1) n) i)
    ∙ sym (count-cons (λ e. test (e % w)) a (range_with_len (a + 1) n))

counted-rounds : (test : ℕ → Bool) (w a d e : ℕ) → counted test w a (d * w + e) ≡ d * counted test w a w + counted test w a e
counted-rounds test w a zero e =
    let long : zero * w + e ≡ e = omega arith in
    ap (λ n. counted test w a n) long
    ∙ (let none : counted test w a e ≡ zero * counted test w a w + counted test w a e = omega arith in none)
counted-rounds test w a (suc d) e =
    let long : suc d * w + e ≡ w + (d * w + e) = omega arith in
    ap (λ n. counted test w a n) long
    ∙ ap (λ xs. count_by (λ e. test (e % w)) xs) (range-append a w (d * w + e))
    ∙ count-append (λ e. test (e % w)) (range_with_len a w) (range_with_len (a + w) (d * w + e))
    ∙ ap (λ n. counted test w a w + n) (counted-later test w a (d * w + e) ∙ counted-rounds test w a d e)
    ∙ grouped d (counted test w a w) (counted test w a e) where
      grouped : (d m n : ℕ) → m + (d * m + n) ≡ suc d * m + n
      grouped d m n = omega arith

-- by index: each remainder so often as there are rounds, and once more in the last one
abbrev pub by_index : (ℕ → Bool) → ℕ → ℕ → ℕ → ℕ → ℕ → ℕ
by_index test w a rounds more k = cond (test ((a + k) % w)) (rounds + cond (nat_lt k more) 1 0) 0

early : (b : Bool) (d k e : ℕ) → k < e → cond b (d + cond (nat_lt k e) 1 0) 0 ≡ d * cond b 1 0 + cond b 1 0
early b d k e before = one b (nat_lt k e) (is k e before) where
  is : (k e : ℕ) → k < e → nat_lt k e ≡ true
  is k e before = grind (arith, nat_tests)

  one : (b f : Bool) → f ≡ true → cond b (d + cond f 1 0) 0 ≡ d * cond b 1 0 + cond b 1 0
  one true true set = omega arith
  one true false set = cc set
  one false f set = omega arith

late : (b : Bool) (d k e : ℕ) → e ≤ k → cond b (d + cond (nat_lt k e) 1 0) 0 ≡ d * cond b 1 0
late b d k e behind = one b (nat_lt k e) (is k e behind) where
  is : (k e : ℕ) → e ≤ k → nat_lt k e ≡ false
  is k e behind = grind (arith, nat_tests)

  one : (b f : Bool) → f ≡ false → cond b (d + cond f 1 0) 0 ≡ d * cond b 1 0
  one true true set = cc set
  one true false set = omega arith
  one false f set = omega arith

sum-rounds : (test : ℕ → Bool) (w a d e m : ℕ)
    → sum_by (by_index test w a d e) (range_with_len 0 m) ≡ d * counted test w a m + counted test w a (min m e)
sum-rounds test w a d e zero =
    (let none : 0 ≡ d * 0 + 0 = omega arith in none)
    ∙ ap (λ k. d * 0 + counted test w a k) (let least : 0 ≡ min zero e = omega arith in least)
sum-rounds test w a d e (suc m) =
    let next : suc m ≡ m + 1 = omega arith in
    let at : 0 + m ≡ m = omega arith in
    ap (λ k. sum_by (by_index test w a d e) (range_with_len 0 k)) next
    ∙ sum-more (by_index test w a d e) 0 m
    ∙ (λ i. sum-rounds test w a d e m i + by_index test w a d e (at i))
    ∙ elim (cases_lt m e) [
      | inl before ↦
          let here : min m e ≡ m = omega (arith, before) in
          let then : m + 1 ≡ min (suc m) e = omega (arith, before) in
          (λ i. (d * counted test w a m + counted test w a (here i)) + early (test ((a + m) % w)) d m e before i)
          ∙ joined d (counted test w a m) (counted test w a m) (cond (test ((a + m) % w)) 1 0)
          ∙ (λ i. d * sym (counted-more test w a m) i + sym (counted-more test w a m) i)
          ∙ (λ i. d * counted test w a (sym next i) + counted test w a (then i))
      | inr behind ↦
          let here : min m e ≡ min (suc m) e = omega (arith, behind) in
          (λ i. (d * counted test w a m + counted test w a (here i)) + late (test ((a + m) % w)) d m e behind i)
          ∙ apart d (counted test w a m) (counted test w a (min (suc m) e)) (cond (test ((a + m) % w)) 1 0)
          ∙ (λ i. d * sym (counted-more test w a m) i + counted test w a (min (suc m) e))
          ∙ (λ i. d * counted test w a (sym next i) + counted test w a (min (suc m) e))
    ] where
      joined : (d m n c : ℕ) → (d * m + n) + (d * c + c) ≡ d * (m + c) + (n + c)
      joined d m n c = omega arith

      apart : (d m n c : ℕ) → (d * m + n) + d * c ≡ d * (m + c) + n
      apart d m n c = omega arith

-- all entries of a range, by the remainders of as many as there are, or of a round
pub count-rounds : (test : ℕ → Bool) (w first stop : ℕ) → 0 < w
    → sum_by (by_index test w first ((stop - first) / w) ((stop - first) % w)) (range 0 (min w (stop - first)))
    ≡ count_by (λ e. test (e % w)) (range first stop)
count-rounds test w first stop some =
    let long : min w (stop - first) - 0 ≡ min w (stop - first) = omega arith in
    let parts : (stop - first) / w * w + (stop - first) % w ≡ stop - first = div-add-mod' (stop - first) w in
    let below : (stop - first) % w < w = mod_below (stop - first) w some in
    ap (λ k. sum_by (by_index test w first ((stop - first) / w) ((stop - first) % w)) (range_with_len 0 k)) long
    ∙ sum-rounds test w first ((stop - first) / w) ((stop - first) % w) (min w (stop - first))
    ∙ whole ((stop - first) / w) ((stop - first) % w) (stop - first) parts below
    ∙ sym (counted-rounds test w first ((stop - first) / w) ((stop - first) % w))
    ∙ ap (λ k. counted test w first k) parts where
      whole : (d e n : ℕ) → d * w + e ≡ n → e < w
          → d * counted test w first (min w n) + counted test w first (min (min w n) e) ≡ d * counted test w first w + counted test w first e
      whole zero e n parts below =
          let least : min (min w n) e ≡ e = omega (arith, parts, below) in
          ap (λ k. zero * counted test w first (min w n) + counted test w first k) least
          ∙ none (counted test w first (min w n)) (counted test w first w) (counted test w first e) where
            none : (a b c : ℕ) → zero * a + c ≡ zero * b + c
            none a b c = omega arith
      whole (suc d) e n parts below =
          let enough : w ≤ n = least d e n parts in
          let one : min w n ≡ w = omega (arith, enough) in
          let other : min (min w n) e ≡ e = omega (arith, enough, below) in
          λ i. suc d * counted test w first (one i) + counted test w first (other i) where
            least : (d e n : ℕ) → suc d * w + e ≡ n → w ≤ n
            least d e n parts = omega (arith, parts)

pub sum-range_more : (f : ℕ → ℕ) (n : ℕ) → sum_by f (range 0 (n + 1)) ≡ sum_by f (range 0 n) + f n
sum-range_more f n =
    let long : n + 1 - 0 ≡ (n - 0) + 1 = omega arith in
    let at : 0 + (n - 0) ≡ n = omega arith in
    ap (λ k. sum_by f (range_with_len 0 k)) long ∙ sum-more f 0 (n - 0) ∙ ap (λ k. sum_by f (range 0 n) + f k) at
