-- What is found among elements.
use Rattle.std.proofs.Common.{◌≡◌, ℕ, suc, ◌+◌, Bool, true, false, not, ◌||◌, nat_lt, cond, List, [], ◌∷◌, length, position, Some, None, arith, refl, ap, ◌∙◌}
use Rattle.std.specs.List.{list_any, prefix_len}
use Rattle.std.specs.Option.{is_some}

-- an element is found where there is one
module _ {A : Type 0} (p : A → Bool) where
  step : (b : Bool) (n k : ℕ) → nat_lt (cond (not b) (1 + n) 0) (suc k) ≡ (b || nat_lt n k)
  step true n k = grind arith
  step false n k = grind arith

  any : (xs : List A) → nat_lt (prefix_len (λ x. not (p x)) xs) (length xs) ≡ list_any p xs
  any [] = refl
  any (x ∷ xs) = step (p x) (prefix_len (λ x. not (p x)) xs) (length xs) ∙ ap (λ b. p x || b) (any xs)

  found : (b : Bool) (n : ℕ) → is_some (cond b (Some n) None) ≡ b
  found true n = refl
  found false n = refl

  pub found_any : (xs : List A) → is_some (position p xs) ≡ list_any p xs
  found_any xs =
      found (nat_lt (prefix_len (λ x. not (p x)) xs) (length xs)) (prefix_len (λ x. not (p x)) xs) ∙ any xs
