-- Which entries ranges have.
use Rattle.std.specs.Prelude.{◌≡◌, ℕ, ◌<◌, Bool, false, ◌&&◌, ◌||◌, nat_le, nat_lt, List, Option}
use Rattle.std.specs.List.{list_any}
use Rattle.std.specs.Option.{ForSome, option_map_or}

-- from the first to the last
abbrev pub is_within : ℕ → ℕ × ℕ → Bool
is_within e range = nat_le range.0 e && nat_le e range.1

abbrev pub is_in : List (ℕ × ℕ) → ℕ → Bool
is_in ranges e = list_any (is_within e) ranges

-- in ranges, or in one more that is open at this end, if there is one
abbrev pub is_passed : List (ℕ × ℕ) → Option ℕ → ℕ → ℕ → Bool
is_passed ranges first end e = is_in ranges e || option_map_or (λ first. nat_le first e && nat_lt e end) first false

-- The ranges have the entries below an end that pass the test; the last of them may be open, and begins below it.
pub record IsPassing (test : ℕ → Bool) (end : ℕ) (ranges : List (ℕ × ℕ)) (first : Option ℕ) : Type 0 where
  pub begun : ForSome first (λ first. first < end)
  pub passed : (e : ℕ) → is_passed ranges first end e ≡ (nat_lt e end && test e)
