-- The first three names of a list, or fewer.
use Rattle.std.proofs.Common.{◌≡◌, ◌<◌, ◌≤◌, ℕ, List, [], ◌∷◌, ap, arith, length, get_or, map, refl, take, Bor}
use Rattle.reh_near.specs.Near.{told_nearest}

pub none : (names : List (Bor (List ℕ))) → length names < 1
    → told_nearest [] ≡ told_nearest (take 3 (map (λ name. name.now) names))
none [] few = refl
none (x ∷ more) few = absurd (omega arith)

pub one : (names : List (Bor (List ℕ))) (a : Bor (List ℕ)) → 1 ≤ length names → length names < 2 → a ≡ get_or names 0 a
    → told_nearest (a.now ∷ []) ≡ told_nearest (take 3 (map (λ name. name.now) names))
one [] a some few first = absurd (omega arith)
one (x ∷ []) a some few first = ap (λ (n : Bor (List ℕ)). told_nearest (n.now ∷ [])) first
one (x ∷ y ∷ more) a some few first = absurd (omega arith)

pub two : (names : List (Bor (List ℕ))) (a b : Bor (List ℕ)) → 2 ≤ length names → length names < 3
    → a ≡ get_or names 0 a → b ≡ get_or names 1 b
    → told_nearest (a.now ∷ b.now ∷ []) ≡ told_nearest (take 3 (map (λ name. name.now) names))
two [] a b some few first second = absurd (omega arith)
two (x ∷ []) a b some few first second = absurd (omega arith)
two (x ∷ y ∷ []) a b some few first second = rw (first, second) refl
two (x ∷ y ∷ z ∷ more) a b some few first second = absurd (omega arith)

pub three : (names : List (Bor (List ℕ))) (a b c : Bor (List ℕ)) → 3 ≤ length names
    → a ≡ get_or names 0 a → b ≡ get_or names 1 b → c ≡ get_or names 2 c
    → told_nearest (a.now ∷ b.now ∷ c.now ∷ []) ≡ told_nearest (take 3 (map (λ name. name.now) names))
three [] a b c some first second third = absurd (omega arith)
three (x ∷ []) a b c some first second third = absurd (omega arith)
three (x ∷ y ∷ []) a b c some first second third = absurd (omega arith)
three (x ∷ y ∷ z ∷ more) a b c some first second third = rw (first, second, third) refl
