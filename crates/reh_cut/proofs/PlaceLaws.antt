-- The place of the first that passes a test.
use Rattle.std.proofs.Common.{◌≡◌, ◌∙◌, ◌+◌, ◌<◌, ◌≤◌, ◌||◌, ℕ, zero, suc, Bool, true, false, not, cond, List, [], ◌∷◌, None, Some}
use Rattle.std.proofs.Common.{ap, sym, refl, arith, get_or, length, take, take_all, position, nat_lt, one-add, true≢false}
use Rattle.std.specs.List.{list_any, position_or_len}
use Rattle.std.proofs.lemmas.Bool.{le-ltb, lt-ltb}

-- the first that passes, where none before it does
first_here : {X : Type 0} (p : X → Bool) (xs : List X) (i : ℕ) (d : X) → i < length xs → list_any p (take i xs) ≡ false
    → p (get_or xs i d) ≡ true → position_or_len p xs ≡ i
first_here p [] i d within none passes = absurd (omega (arith, within))
first_here p (x ∷ xs) zero d within none passes = ap (λ b. cond (not b) (1 + position_or_len p xs) 0) passes
first_here p (x ∷ xs) (suc i) d within none passes =
    elim (p x) as (λ b. (b || list_any p (take i xs)) ≡ false → cond (not b) (1 + position_or_len p xs) 0 ≡ suc i) [
      | true ↦ λ e. absurd (true≢false e)
      | false ↦ λ e. ap (λ n. 1 + n) (first_here p xs i d (omega (arith, within)) e passes) ∙ one-add i
    ] none

no_first : {X : Type 0} (p : X → Bool) (xs : List X) → list_any p xs ≡ false → position_or_len p xs ≡ length xs
no_first p [] none = refl
no_first p (x ∷ xs) none =
    elim (p x) as (λ b. (b || list_any p xs) ≡ false → cond (not b) (1 + position_or_len p xs) 0 ≡ suc (length xs)) [
      | true ↦ λ e. absurd (true≢false e)
      | false ↦ λ e. ap (λ n. 1 + n) (no_first p xs e) ∙ one-add (length xs)
    ] none

pub position_here : {X : Type 0} (p : X → Bool) (xs : List X) (i : ℕ) (d : X) → i < length xs → list_any p (take i xs) ≡ false
    → p (get_or xs i d) ≡ true → position p xs ≡ Some i
position_here p xs i d within none passes =
    ap (λ n. cond (nat_lt n (length xs)) (Some n) None) (first_here p xs i d within none passes)
    ∙ ap (λ b. cond b (Some i) None) (lt-ltb i (length xs) within)

pub position_none : {X : Type 0} (p : X → Bool) (xs : List X) (i : ℕ) → length xs ≤ i → list_any p (take i xs) ≡ false
    → position p xs ≡ None
position_none p xs i end none =
    let all : list_any p xs ≡ false = ap (list_any p) (sym (take_all i xs end)) ∙ none in
    ap (λ n. cond (nat_lt n (length xs)) (Some n) None) (no_first p xs all)
    ∙ ap (λ b. cond b (Some (length xs)) None) (le-ltb (length xs) (length xs) (omega arith))
