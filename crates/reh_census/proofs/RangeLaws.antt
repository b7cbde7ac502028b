-- Counts and sums over ranges of numbers.
use Rattle.std.proofs.Common.{◌≡◌, ◌∙◌, ◌+◌, ◌-◌, ◌<◌, ◌≤◌, ◌&&◌, cond, ℕ, zero, suc, Bool, true, false, List, [], ◌∷◌, ◌++◌, map}
use Rattle.std.proofs.Common.{refl, ap, sym, arith, inl, inr}
use Rattle.std.specs.Prelude.{count_by, sum_by, ◌==◌}
use Rattle.std.specs.List.{list_all, range_with_len}
use Rattle.std.proofs.lemmas.Bool.{cases_lt}
use Rattle.std.proofs.lemmas.Bool.Decides.{nat_tests}
use Rattle.std.proofs.lemmas.List.Sums.{sum_by-cons}
use Rattle.reh_census.specs.Striping.{range}
use Rattle.reh_census.proofs.CountLaws.{count-cons, count-append}

pub range-append : (a m n : ℕ) → range_with_len a (m + n) ≡ range_with_len a m ++ range_with_len (a + m) n
range-append a zero n =
    let long : zero + n ≡ n = omega arith in
    let at : a ≡ a + zero = omega arith in
    λ i. range_with_len (at i) (long i)
range-append a (suc m) n =
    let long : suc m + n ≡ suc (m + n) = omega arith in
    let at : (a + 1) + m ≡ a + suc m = omega arith in
    ap (range_with_len a) long
    ∙ ap (λ xs. a ∷ xs) (range-append (a + 1) m n ∙ ap (λ k. range_with_len (a + 1) m ++ range_with_len k n) at)

-- a range, parted
pub count-parted : (p : ℕ → Bool) (a b c : ℕ) → a ≤ b → b ≤ c
    → count_by p (range a c) ≡ count_by p (range a b) + count_by p (range b c)
count-parted p a b c first second =
    let long : c - a ≡ (b - a) + (c - b) = omega arith in
    let at : a + (b - a) ≡ b = omega arith in
    ap (λ k. count_by p (range_with_len a k)) long
    ∙ ap (λ xs. count_by p xs) (range-append a (b - a) (c - b))
    ∙ count-append p (range_with_len a (b - a)) (range_with_len (a + (b - a)) (c - b))
    ∙ ap (λ k. count_by p (range_with_len a (b - a)) + count_by p (range_with_len k (c - b))) at

-- tests that answer alike over a range
pub count-same : (p q : ℕ → Bool) (a n : ℕ) → ((e : ℕ) → a ≤ e → e < a + n → p e ≡ q e)
    → count_by p (range_with_len a n) ≡ count_by q (range_with_len a n)
count-same p q a zero alike = refl
count-same p q a (suc n) alike =
    count-cons p a (range_with_len (a + 1) n)
    ∙ (λ i. cond (alike a (omega arith) (omega arith) i) 1 0
    + count-same p q (a + 1) n (λ e from below. alike e (omega arith) (omega arith)) i)
    ∙ sym (count-cons q a (range_with_len (a + 1) n))

-- a sum of nothing
pub sum-none : (f : ℕ → ℕ) (xs : List ℕ) → ((x : ℕ) → f x ≡ 0) → sum_by f xs ≡ 0
sum-none f [] none = refl
sum-none f (x ∷ xs) none =
    sum_by-cons f x xs ∙ (λ i. none x i + sum-none f xs none i) ∙ (let sum : 0 + 0 ≡ 0 = omega arith in sum)

-- a sum with one term that counts
sum-before : (k : ℕ) (f : ℕ → ℕ) (a n : ℕ) → k < a → sum_by (λ r. cond (k == r) (f r) 0) (range_with_len a n) ≡ 0
sum-before k f a zero before = refl
sum-before k f a (suc n) before =
    let apart : (k == a) ≡ false = grind (arith, nat_tests) in
    sum_by-cons (λ r. cond (k == r) (f r) 0) a (range_with_len (a + 1) n)
    ∙ (λ i. cond (apart i) (f a) 0 + sum-before k f (a + 1) n (omega arith) i)
    ∙ (let sum : 0 + 0 ≡ 0 = omega arith in sum)

differ : (k a : ℕ) → a < k → (k == a) ≡ false
differ k a above = grind (arith, nat_tests)

itself : (k a : ℕ) → k ≡ a → (k == a) ≡ true
itself k a same = grind (arith, nat_tests)

pub sum-one : (k : ℕ) (f : ℕ → ℕ) (a n : ℕ) → a ≤ k → k < a + n
    → sum_by (λ r. cond (k == r) (f r) 0) (range_with_len a n) ≡ f k
sum-one k f a zero from below = absurd (omega arith)
sum-one k f a (suc n) from below =
    sum_by-cons (λ r. cond (k == r) (f r) 0) a (range_with_len (a + 1) n)
    ∙ elim (cases_lt a k) [
      | inl later ↦
          (λ i. cond (differ k a later i) (f a) 0 + sum-one k f (a + 1) n (omega arith) (omega arith) i)
          ∙ (let none : 0 + f k ≡ f k = omega arith in none)
      | inr here ↦
          let same : k ≡ a = omega arith in
          (λ i. cond (itself k a same i) (f a) 0 + sum-before k f (a + 1) n (omega arith) i)
          ∙ (let none : f a + 0 ≡ f a = omega arith in none) ∙ ap f (sym same)
    ]

-- a sum of sums
pub sum-plus : (f d h : ℕ → ℕ) (xs : List ℕ) → ((x : ℕ) → h x ≡ f x + d x) → sum_by h xs ≡ sum_by f xs + sum_by d xs
sum-plus f d h [] each = refl
sum-plus f d h (x ∷ xs) each =
    sum_by-cons h x xs
    ∙ (λ i. each x i + sum-plus f d h xs each i)
    ∙ grouped (f x) (d x) (sum_by f xs) (sum_by d xs)
    ∙ (λ i. sym (sum_by-cons f x xs) i + sym (sum_by-cons d x xs) i) where
      grouped : (a b m n : ℕ) → (a + b) + (m + n) ≡ (a + m) + (b + n)
      grouped a b m n = omega arith

-- one number more
pub count-range_more : (p : ℕ → Bool) (n : ℕ) → count_by p (range 0 (n + 1)) ≡ count_by p (range 0 n) + cond (p n) 1 0
count-range_more p n =
    let long : n + 1 - 0 ≡ (n - 0) + 1 = omega arith in
    let at : 0 + (n - 0) ≡ n = omega arith in
    let none : cond (p n) 1 0 + 0 ≡ cond (p n) 1 0 = omega arith in
    ap (λ k. count_by p (range_with_len 0 k)) long
    ∙ ap (λ xs. count_by p xs) (range-append 0 (n - 0) 1)
    ∙ count-append p (range_with_len 0 (n - 0)) (range_with_len (0 + (n - 0)) 1)
    ∙ ap (λ k. count_by p (range 0 n) + count_by p (range_with_len k 1)) at
    ∙ ap (λ k. count_by p (range 0 n) + k) (count-cons p n [] ∙ none)

count-map : {X Y : Type 0} (p : Y → Bool) (f : X → Y) (xs : List X) → count_by p (map f xs) ≡ count_by (λ x. p (f x)) xs
count-map p f [] = refl
count-map p f (x ∷ xs) =
    count-cons p (f x) (map f xs) ∙ ap (λ n. cond (p (f x)) 1 0 + n) (count-map p f xs) ∙ sym (count-cons (λ x. p (f x)) x xs)

-- and of what is made of them in two steps
pub count-mapped_more : (p : ℕ → Bool) (f h : ℕ → ℕ) (n : ℕ)
    → count_by p (map f (map h (range 0 (n + 1)))) ≡ count_by p (map f (map h (range 0 n))) + cond (p (f (h n))) 1 0
count-mapped_more p f h n =
    twice (range 0 (n + 1)) ∙ count-range_more (λ r. p (f (h r))) n ∙ ap (λ k. k + cond (p (f (h n))) 1 0) (sym (twice (range 0 n))) where
      twice : (xs : List ℕ) → count_by p (map f (map h xs)) ≡ count_by (λ r. p (f (h r))) xs
      twice xs = count-map p f (map h xs) ∙ count-map (λ x. p (f x)) h xs

-- tests of all numbers of a range
pub all_pass : (p : ℕ → Bool) (a n : ℕ) → ((k : ℕ) → a ≤ k → k < a + n → p k ≡ true) → list_all p (range_with_len a n) ≡ true
all_pass p a zero each = refl
all_pass p a (suc n) each =
    λ i. (each a (omega arith) (omega arith) ∙ refl) i && all_pass p (a + 1) n (λ k above below. each k (omega arith) (omega arith)) i

pub one_fails : (p : ℕ → Bool) (a n k : ℕ) → a ≤ k → k < a + n → p k ≡ false → list_all p (range_with_len a n) ≡ false
one_fails p a zero k from below miss = absurd (omega arith)
one_fails p a (suc n) k from below miss =
    elim (cases_lt a k) [
      | inl later ↦ ap (λ b. p a && b) (one_fails p (a + 1) n k (omega arith) (omega arith) miss) ∙ never (p a)
      | inr here ↦ let same : a ≡ k = omega arith in ap (λ b. b && list_all p (range_with_len (a + 1) n)) (ap p same ∙ miss)
    ] where
      never : (b : Bool) → (b && false) ≡ false
      never true = refl
      never false = refl
