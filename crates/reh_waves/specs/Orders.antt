-- Names in their order.
use Rattle.std.specs.Prelude.{ℕ, List, [], length, Bool, slice_get, String}
use Rattle.std.specs.Cmp.Lexicographic.{slice_cmp}
use Rattle.std.specs.List.Sorted.{IsPermutation, IsSortedBy, IsStableBy}
use Rattle.std.specs.Option.{option_map_or}
use Rattle.std.specs.Ordering.{is_lt, nat_cmp}
use Rattle.std.specs.Prelude.{string_bytes}
use Rattle.std.specs.declared.alloc.Global.{Global}
use Rattle.reh_census.specs.Striping.{range}

-- the bytes of the name of this number
abbrev pub name_at : List (String Global) → ℕ → List ℕ
name_at names number = option_map_or (λ name. string_bytes name) (slice_get names number) []

-- whether the name of this number comes before the other's
abbrev pub comes_before : List (String Global) → ℕ → ℕ → Bool
comes_before names number other = is_lt (slice_cmp nat_cmp (name_at names number) (name_at names other))

-- the numbers of the names in the order of the names, and of equal names in the order of their numbers
pub record IsNameOrder (names : List (String Global)) (order : List ℕ) : Type 0 where
  pub permutation : IsPermutation (range 0 (length names)) order
  pub sorted : IsSortedBy (comes_before names) order
  pub stable : IsStableBy (comes_before names) (range 0 (length names)) order
