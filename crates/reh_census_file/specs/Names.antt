-- Which lists of names there can be.
use Rattle.std.specs.Prelude.{ℕ, ◌≤◌, if◌then◌else◌, List, [], ◌∷◌, ◌++◌, length}
use Rattle.std.specs.List.{IsDistinct, list_any}
use Rattle.std.specs.Str.{bytes_eq}
use Rattle.reh_census_file.specs.declared.lists.TheConstants.{MAX_NAMES}

-- names of as many bookies as there can be, each once
pub record IsNameList (names : List (List ℕ)) : Type 0 where
  pub few : length names ≤ MAX_NAMES
  pub different : IsDistinct bytes_eq names

-- the names with this one, if it isn't there, as the last
abbrev pub with_name : List (List ℕ) → List ℕ → List (List ℕ)
with_name names name = if list_any (bytes_eq name) names then names else names ++ name ∷ []
