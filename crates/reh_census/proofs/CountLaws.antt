-- Counts of lists.
use Rattle.std.proofs.Common.{◌≡◌, ◌∙◌, ◌+◌, ◌≤◌, ◌&&◌, ◌||◌, not, cond, ℕ, Bool, true, false, List, [], ◌∷◌, ◌++◌}
use Rattle.std.proofs.Common.{refl, ap, sym, length, nat_lt, arith}
use Rattle.std.specs.Prelude.{count_by, sum_by}
use Rattle.std.specs.List.{filter, list_any}
use Rattle.std.proofs.lemmas.Bool.Decides.{nat_tests}
use Rattle.std.proofs.lemmas.List.Sums.{sum_by-cons, sum_by-append, sum_by-le-sum_by}

pub count-cons : {X : Type 0} (p : X → Bool) (x : X) (xs : List X) → count_by p (x ∷ xs) ≡ cond (p x) 1 0 + count_by p xs
count-cons p x xs = sum_by-cons (λ y. cond (p y) 1 0) x xs

pub count-append : {X : Type 0} (p : X → Bool) (xs ys : List X) → count_by p (xs ++ ys) ≡ count_by p xs + count_by p ys
count-append p xs ys = sum_by-append (λ y. cond (p y) 1 0) xs ys

pub one_or_none : (a b : Bool) → (a ≡ true → b ≡ true) → cond a 1 0 ≤ cond b 1 0
one_or_none true true implies = omega arith
one_or_none true false implies = cc (implies refl)
one_or_none false true implies = omega arith
one_or_none false false implies = omega arith

-- what passes a test passes a wider one
pub count-le : {X : Type 0} (p q : X → Bool) (xs : List X) → ((x : X) → p x ≡ true → q x ≡ true)
    → count_by p xs ≤ count_by q xs
count-le p q xs implies =
    sum_by-le-sum_by (λ x. cond (p x) 1 0) (λ x. cond (q x) 1 0) xs (λ x. one_or_none (p x) (q x) (implies x))

-- tests that answer alike
pub count-alike : {X : Type 0} (p q : X → Bool) (xs : List X) → ((x : X) → p x ≡ q x) → count_by p xs ≡ count_by q xs
count-alike p q xs alike = λ i. count_by (λ x. alike x i) xs

split_one : (a b : Bool) (m n : ℕ) → cond a 1 0 + (m + n) ≡ (cond (a && b) 1 0 + m) + (cond (a && not b) 1 0 + n)
split_one true true m n = omega arith
split_one true false m n = omega arith
split_one false true m n = omega arith
split_one false false m n = omega arith

-- those that pass a test, by another
pub count-split : {X : Type 0} (p q : X → Bool) (xs : List X)
    → count_by p xs ≡ count_by (λ x. p x && q x) xs + count_by (λ x. p x && not (q x)) xs
count-split p q [] = refl
count-split p q (x ∷ xs) =
    count-cons p x xs
    ∙ ap (λ n. cond (p x) 1 0 + n) (count-split p q xs)
    ∙ split_one (p x) (q x) (count_by (λ x. p x && q x) xs) (count_by (λ x. p x && not (q x)) xs)
    ∙ (λ i. sym (count-cons (λ x. p x && q x) x xs) i + sym (count-cons (λ x. p x && not (q x)) x xs) i)

-- of a filtered list
filter_one : {X : Type 0} (p q : X → Bool) (x : X) (xs : List X) → count_by p (filter q xs) ≡ count_by (λ x. q x && p x) xs
    → (b : Bool) → count_by p (cond b (x ∷ filter q xs) (filter q xs)) ≡ cond (b && p x) 1 0 + count_by (λ x. q x && p x) xs
filter_one p q x xs rest true = count-cons p x (filter q xs) ∙ ap (λ n. cond (p x) 1 0 + n) rest
filter_one p q x xs rest false = rest ∙ (let none : count_by (λ x. q x && p x) xs ≡ 0 + count_by (λ x. q x && p x) xs = omega arith in none)

pub count-filter : {X : Type 0} (p q : X → Bool) (xs : List X)
    → count_by p (filter q xs) ≡ count_by (λ x. q x && p x) xs
count-filter p q [] = refl
count-filter p q (x ∷ xs) =
    filter_one p q x xs (count-filter p q xs) (q x) ∙ sym (count-cons (λ x. q x && p x) x xs)

never : (a : Bool) (n : ℕ) → n ≡ 0 → cond (a && not a) 1 0 + n ≡ 0
never true n none = omega arith
never false n none = omega arith

-- nothing passes a test and doesn't
pub count-never : {X : Type 0} (p : X → Bool) (xs : List X) → count_by (λ x. p x && not (p x)) xs ≡ 0
count-never p [] = refl
count-never p (x ∷ xs) =
    count-cons (λ x. p x && not (p x)) x xs ∙ never (p x) (count_by (λ x. p x && not (p x)) xs) (count-never p xs)

-- some element passes where not fewer than one do
pub any-count : {X : Type 0} (p : X → Bool) (xs : List X) → list_any p xs ≡ nat_lt 0 (count_by p xs)
any-count p [] = refl
any-count p (x ∷ xs) =
    any-here (p x) (list_any p xs) (count_by p xs) (any-count p xs)
    ∙ ap (λ n. nat_lt 0 n) (sym (count-cons p x xs)) where
      any-here : (here later : Bool) (n : ℕ) → later ≡ nat_lt 0 n → (here || later) ≡ nat_lt 0 (cond here 1 0 + n)
      any-here true later n was = grind (arith, nat_tests)
      any-here false later n was = was ∙ (let none : n ≡ 0 + n = omega arith in ap (λ n. nat_lt 0 n) none)

-- where so many pass one test, and so many another, that they are more than all, some pass both
overlap : (a b : Bool) (m n k both : ℕ) → m + n ≤ k + both
    → (cond a 1 0 + m) + (cond b 1 0 + n) ≤ (1 + k) + (cond (a && b) 1 0 + both)
overlap true true m n k both was = omega arith
overlap true false m n k both was = omega arith
overlap false true m n k both was = omega arith
overlap false false m n k both was = omega arith

pub count-both : {X : Type 0} (p q : X → Bool) (xs : List X)
    → count_by p xs + count_by q xs ≤ length xs + count_by (λ x. p x && q x) xs
count-both p q [] = omega arith
count-both p q (x ∷ xs) =
    let long : length (x ∷ xs) ≡ 1 + length xs = omega arith in
    let more : (cond (p x) 1 0 + count_by p xs) + (cond (q x) 1 0 + count_by q xs)
    ≤ (1 + length xs) + (cond (p x && q x) 1 0 + count_by (λ x. p x && q x) xs) =
    overlap (p x) (q x) (count_by p xs) (count_by q xs) (length xs) (count_by (λ x. p x && q x) xs) (count-both p q xs) in
    omega (arith, more, long, count-cons p x xs, count-cons q x xs, count-cons (λ x. p x && q x) x xs)

-- of what passes a test, where that passes one of two others
pub cond_le : (p q r : Bool) (n : ℕ) → (p ≡ true → (q || r) ≡ true) → cond p n 0 ≤ cond q n 0 + cond r n 0
cond_le true true true n either = omega arith
cond_le true true false n either = omega arith
cond_le true false true n either = omega arith
cond_le true false false n either = cc (either refl)
cond_le false true true n either = omega arith
cond_le false true false n either = omega arith
cond_le false false true n either = omega arith
cond_le false false false n either = omega arith

pub sum-le-plus : {X : Type 0} (f g h : X → ℕ) (xs : List X) → ((x : X) → f x ≤ g x + h x)
    → sum_by f xs ≤ sum_by g xs + sum_by h xs
sum-le-plus f g h [] each = omega arith
sum-le-plus f g h (x ∷ xs) each =
    omega (arith, each x, sum-le-plus f g h xs each, sum_by-cons f x xs, sum_by-cons g x xs, sum_by-cons h x xs)

-- what passes a test passes a wider one, of counted things
pub cond_mono : (p q : Bool) (n : ℕ) → (p ≡ true → q ≡ true) → cond p n 0 ≤ cond q n 0
cond_mono true true n implies = omega arith
cond_mono true false n implies = cc (implies refl)
cond_mono false true n implies = omega arith
cond_mono false false n implies = omega arith
