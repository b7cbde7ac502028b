-- Which lists of names there can be.
use Rattle.std.specs.Prelude.{ℕ, ◌≤◌, List, length}
use Rattle.std.specs.List.{prefix_len}
use Rattle.std.specs.Ordering.{is_lt}
use Rattle.reh_census.specs.Order.{InOrder, names_cmp}
use Rattle.reh_inputs.specs.declared.names.TheConstants.{MAX_CLUSTER_BOOKIES}

-- names of as many bookies as a cluster has at most, each once, in their order
pub record IsNames (names : List (List ℕ)) : Type 0 where
  pub few : length names ≤ MAX_CLUSTER_BOOKIES
  pub order : InOrder names_cmp names

-- the place of a name among others in order: so many come before it
abbrev pub place_of : List (List ℕ) → List ℕ → ℕ
place_of names name = prefix_len (λ other. is_lt (names_cmp other name)) names
