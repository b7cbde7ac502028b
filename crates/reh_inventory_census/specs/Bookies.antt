-- The bookies of an inventory's first line, as a census has them.
use Rattle.std.specs.Prelude.{ℕ, false, List, [], Option, None, fold, position, slice_get}
use Rattle.std.specs.Option.{option_and_then, option_map_or}
use Rattle.std.specs.Str.{bytes_eq}
use Rattle.reh_census.specs.declared.bookies.Bookie.{Bookie as CountedBookie}
use Rattle.reh_census_file.specs.Names.{with_name}
use Rattle.reh_inventory.specs.declared.heads.Bookie.{Bookie}

-- the racks, each once, as bookies first name them
abbrev pub with_rack : List (List ℕ) → Bookie → List (List ℕ)
with_rack racks b = option_map_or (with_name racks) b.rack racks

abbrev pub racks_of : List Bookie → List (List ℕ)
racks_of bookies = fold with_rack [] bookies

abbrev pub rack_number : List (List ℕ) → Bookie → Option ℕ
rack_number racks b = option_and_then (λ rack. position (bytes_eq rack) racks) b.rack

-- a bookie of the first line, by the number of its rack
abbrev pub as_counted : List (List ℕ) → Bookie → CountedBookie
as_counted racks b = record {
  is_registered = b.is_up;
  is_read_only = b.is_read_only;
  is_empty = b.is_empty;
  rack = rack_number racks b;
}

-- one that it doesn't have isn't registered
abbrev pub unregistered : CountedBookie
unregistered = record { is_registered = false; is_read_only = false; is_empty = false; rack = None }

-- where the bookie of this name stands
abbrev pub place_of : List Bookie → List ℕ → Option ℕ
place_of bookies name = position (λ (b : Bookie). bytes_eq b.name name) bookies

-- the bookie of this name
abbrev pub bookie_of : List (List ℕ) → List Bookie → List ℕ → CountedBookie
bookie_of racks bookies name =
    option_map_or (as_counted racks)
    (option_and_then (slice_get bookies) (place_of bookies name)) unregistered
