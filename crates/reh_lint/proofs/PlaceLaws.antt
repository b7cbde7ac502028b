-- The name of a number that there is.
use Rattle.std.proofs.Common.{◌≡◌, ℕ, zero, suc, ◌<◌, List, ◌∷◌, [], length, get_or, refl, arith}
use Rattle.std.specs.Prelude.{slice_get}
use Rattle.std.specs.Option.{option_map_or}

pub at_place : (names : List (List ℕ)) (k : ℕ) (d : List ℕ) → k < length names
    → option_map_or (λ name. name ∷ []) (slice_get names k) [] ≡ get_or names k d ∷ []
at_place [] k d within = absurd (omega arith)
at_place (x ∷ xs) zero d within = refl
at_place (x ∷ xs) (suc k) d within = at_place xs k d (omega arith)
