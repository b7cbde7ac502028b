-- Ranges with one number more.
use Rattle.std.proofs.Common.{◌≡◌, ◌∙◌, ◌+◌, ◌-◌, ℕ, Bool, true, false, cond, List, [], ◌∷◌, ◌++◌, map, refl, ap, sym, arith}
use Rattle.std.specs.List.{filter, range_with_len}
use Rattle.reh_census.specs.Striping.{range}
use Rattle.reh_census.proofs.RangeLaws.{range-append}

pub range-more : (n : ℕ) → range 0 (n + 1) ≡ range 0 n ++ n ∷ []
range-more n =
    let long : n + 1 - 0 ≡ (n - 0) + 1 = omega arith in
    let at : 0 + (n - 0) ≡ n = omega arith in
    ap (λ k. range_with_len 0 k) long
    ∙ range-append 0 (n - 0) 1
    ∙ ap (λ k. range 0 n ++ k ∷ []) at

map-append_one : {Y : Type 0} (f : ℕ → Y) (xs : List ℕ) (x : ℕ) → map f (xs ++ x ∷ []) ≡ map f xs ++ f x ∷ []
map-append_one f [] x = refl
map-append_one f (y ∷ xs) x = ap (λ ys. f y ∷ ys) (map-append_one f xs x)

map-range_more : {Y : Type 0} (f : ℕ → Y) (n : ℕ) → map f (range 0 (n + 1)) ≡ map f (range 0 n) ++ f n ∷ []
map-range_more f n = ap (λ ns. map f ns) (range-more n) ∙ map-append_one f (range 0 n) n

filter-append_one : (p : ℕ → Bool) (xs : List ℕ) (x : ℕ)
    → filter p (xs ++ x ∷ []) ≡ filter p xs ++ cond (p x) (x ∷ []) []
filter-append_one p [] x = refl
filter-append_one p (y ∷ xs) x =
    elim (p y) as (λ b. cond b (y ∷ filter p (xs ++ x ∷ [])) (filter p (xs ++ x ∷ []))
    ≡ cond b (y ∷ filter p xs) (filter p xs) ++ cond (p x) (x ∷ []) []) [
      | true ↦ ap (λ ys. y ∷ ys) (filter-append_one p xs x)
      | false ↦ filter-append_one p xs x
    ]

pub filter-range_more : (p : ℕ → Bool) (n : ℕ)
    → filter p (range 0 (n + 1)) ≡ filter p (range 0 n) ++ cond (p n) (n ∷ []) []
filter-range_more p n = ap (λ ns. filter p ns) (range-more n) ∙ filter-append_one p (range 0 n) n

-- one more is pushed
pub map-pushed : {Y : Type 0} (f : ℕ → Y) (n : ℕ) (ys more : List Y) (y : Y)
    → more ≡ ys ++ y ∷ [] → ys ≡ map f (range 0 n) → y ≡ f n → more ≡ map f (range 0 (n + 1))
map-pushed f n ys more y pushed were is = pushed ∙ (λ i. were i ++ is i ∷ []) ∙ sym (map-range_more f n)
