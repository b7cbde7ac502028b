-- The place of the first element that passes a test.
use Rattle.std.proofs.Common.{◌≡◌, ◌<◌, ℕ, Bool, List, [], ◌∷◌, None, Some, arith, false, get_or, length, position, refl, sym, true, ◌∙◌, ap}
use Rattle.std.proofs.lemmas.List.Sums.{position_or_len_is}
use Rattle.std.specs.List.{position_or_len}

-- an element passes it, and none before
pub position_is : {X : Type 0} (p : X → Bool) (xs : List X) (i : ℕ) (x : X)
    → ((k : ℕ) (d : X) → k < i → p (get_or xs k d) ≡ false) → i < length xs → x ≡ get_or xs i x → p x ≡ true
    → position p xs ≡ Some i
position_is p xs i x before within is here =
    let first : position_or_len p xs ≡ i =
    position_or_len_is p xs i x (omega (arith, within)) (λ k less. before k x less) (λ _. sym (ap p is) ∙ here) in
    grind (arith, first, within)

-- none passes it
pub no_position : {X : Type 0} (p : X → Bool) (xs : List X)
    → ((k : ℕ) (d : X) → k < length xs → p (get_or xs k d) ≡ false) → position p xs ≡ None
no_position p [] none = refl
no_position {X = X} p (y ∷ ys) none =
    let xs : List X = y ∷ ys in
    let past : position_or_len p xs ≡ length xs =
    position_or_len_is p xs (length xs) y (omega arith) (λ k less. none k y less) (λ within. absurd (omega (arith, within))) in
    grind (arith, past)
