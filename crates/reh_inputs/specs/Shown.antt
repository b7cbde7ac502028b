-- Bookies, as inputs show them.
use Rattle.std.specs.Prelude.{ℕ, Bool, true, false, ◌&&◌, List, Option, None, Some}
use Rattle.std.specs.Bool.{beq}
use Rattle.std.specs.Option.{option_map_or}
use Rattle.std.specs.Str.{bytes_eq}

pub record Shown : Type 0 where
  pub is_registered : Bool
  pub is_read_only : Bool
  -- it came back without its disk
  pub is_empty : Bool
  pub rack : Option (List ℕ)

abbrev pub shown_by : Bool → Bool → Bool → Option (List ℕ) → Shown
shown_by is_registered is_read_only is_empty rack = record {
  is_registered = is_registered;
  is_read_only = is_read_only;
  is_empty = is_empty;
  rack = rack;
}

-- whether both are the same rack, or none
abbrev pub is_same_rack : Option (List ℕ) → Option (List ℕ) → Bool
is_same_rack None None = true
is_same_rack None (Some other) = false
is_same_rack (Some rack) None = false
is_same_rack (Some rack) (Some other) = bytes_eq rack other

-- whether both are shown alike
abbrev pub is_like : Shown → Shown → Bool
is_like b other =
    beq b.is_registered other.is_registered
    && (beq b.is_read_only other.is_read_only
    && (beq b.is_empty other.is_empty && is_same_rack b.rack other.rack))

-- whether the bookie is in the rack
abbrev pub is_in : List ℕ → Shown → Bool
is_in rack b = option_map_or (λ own. bytes_eq own rack) b.rack false
