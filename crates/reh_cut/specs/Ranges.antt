-- Ranges of entries, as a picture lists them.
use Rattle.std.specs.Prelude.{ℕ, Bool, ◌&&◌, nat_le, List}
use Rattle.std.specs.List.Sorted.{IsNonDecreasingBy}

abbrev pub is_within : ℕ → ℕ × ℕ → Bool
is_within entry range = nat_le range.0 entry && nat_le entry range.1

-- neither their first nor their last entries fall
pub record AreInOrder (ranges : List (ℕ × ℕ)) : Type 0 where
  pub firsts : IsNonDecreasingBy (λ range. range.0) ranges
  pub lasts : IsNonDecreasingBy (λ range. range.1) ranges
