-- A name that has a place is there.
use Rattle.std.proofs.Common.{◌≡◌, ℕ, Bool, List, [], ◌∷◌, ◌++◌, Some, position, ap, if◌then◌else◌}
use Rattle.std.specs.Str.{bytes_eq}
use Rattle.std.proofs.lemmas.List.Folds.{list_any_at}
use Rattle.std.proofs.lemmas.List.Quantifiers.{position-Some}
use Rattle.reh_census_file.specs.Names.{with_name}

pub with_name_there : (names : List (List ℕ)) (name : List ℕ) (i : ℕ) → position (bytes_eq name) names ≡ Some i
    → with_name names name ≡ names
with_name_there names name i is =
    let found = position-Some (bytes_eq name) names i [] is in
    ap (λ (b : Bool). if b then names else names ++ name ∷ [])
    (list_any_at (bytes_eq name) names i [] found.0 found.1)
