-- Ledgers that are found one after the other.
use Rattle.std.proofs.Common.{◌≡◌, ◌∙◌, ◌+◌, ◌<◌, ◌++◌, ◌∷◌, [], ℕ, zero, suc, Bool, true, false, cond, List, Some, ap, refl, sym, length, get_or, drop, map, arith}
use Rattle.std.specs.Prelude.{All, ◌==◌, slice_get}
use Rattle.std.proofs.lemmas.List.{drop_more}
use Rattle.std.proofs.lemmas.List.Elements.{All-cons}
use Rattle.reh_against.specs.Worst.{Each, found_by, found_from, found_if}

-- the next ledger
pub found-more : {X : Type 0} (weight : X → ℕ) (ids : List ℕ) (ledgers : List X) (place : ℕ) (g : X)
    → length ids ≡ length ledgers → place < length ledgers → g ≡ get_or ledgers place g
    → found_if (weight g) (get_or ids place 0) place
    ++ found_from weight (place + 1) (drop (place + 1) ids) (drop (place + 1) ledgers)
    ≡ found_from weight place (drop place ids) (drop place ledgers)
found-more weight ids ledgers place g same within is =
    ap (λ x. found_if (weight x) (get_or ids place 0) place
    ++ found_from weight (place + 1) (drop (place + 1) ids) (drop (place + 1) ledgers)) is
    ∙ (λ i. found_from weight place (sym (drop_more ids place 0 (omega arith)) i) (sym (drop_more ledgers place g within) i))

-- of ledgers that are made of others
pub found-map : {X Y : Type 0} (f : Y → X) (weight : X → ℕ) (place : ℕ) (ids : List ℕ) (ledgers : List Y)
    → found_from (λ y. weight (f y)) place ids ledgers ≡ found_from weight place ids (map f ledgers)
found-map f weight place [] ledgers = refl
found-map f weight place (id ∷ ids) [] = refl
found-map f weight place (id ∷ ids) (g ∷ ledgers) =
    ap (λ fs. found_if (weight (f g)) id place ++ fs) (found-map f weight (place + 1) ids ledgers)

-- the one at a place
pub at-map : {X Y : Type 0} (f : Y → X) (ys : List Y) (place : ℕ) (y : Y) → place < length ys → y ≡ get_or ys place y
    → slice_get (map f ys) place ≡ Some (f y)
at-map f [] place y within is = absurd (omega (arith, within))
at-map f (z ∷ ys) zero y within is = ap (λ x. Some (f x)) (sym is)
at-map f (z ∷ ys) (suc place) y within is = at-map f ys place y (omega (arith, within)) is

-- none of them stands past the others
pub All-found_if : (n weight ledger place : ℕ) → place < n → All (λ f. f.place < n) (found_if weight ledger place)
All-found_if n weight ledger place within = by (weight == 0) where
  by : (b : Bool) → All (λ f. f.place < n) (cond b [] (found_by weight ledger place ∷ []))
  by true = λ k d below. absurd (omega (arith, below))
  by false = All-cons (λ f. f.place < n) (found_by weight ledger place) [] within (λ k d below. absurd (omega (arith, below)))

-- one more of each
pub Each-push : {X Y : Type 0} (relation : X → Y → Type 0) (xs : List X) (ys : List Y) (x : X) (y : Y)
    → Each relation xs ys → relation x y → Each relation (xs ++ x ∷ []) (ys ++ y ∷ [])
Each-push relation [] [] x y each one = (one, tt)
Each-push relation [] (b ∷ ys) x y each one = absurd each
Each-push relation (a ∷ xs) [] x y each one = absurd each
Each-push relation (a ∷ xs) (b ∷ ys) x y each one = (each.0, Each-push relation xs ys x y each.1 one)
