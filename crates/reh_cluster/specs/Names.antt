-- Which lists of names there can be.
use Rattle.std.specs.Prelude.{ℕ, ◌≤◌, List, length}
use Rattle.std.specs.List.{IsDistinct}
use Rattle.std.specs.Str.{bytes_eq}
use Rattle.reh_types.specs.declared.limits.TheConstants.{MAX_BOOKIES}

-- names of as many bookies as there can be, each once
pub record IsNames (names : List (List ℕ)) : Type 0 where
  pub few : length names ≤ MAX_BOOKIES
  pub different : IsDistinct bytes_eq names
