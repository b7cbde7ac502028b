-- The bookies of a cluster, and sets of them.
use Rattle.std.specs.Prelude.{ℕ, ◌+◌, max, Bool, false, not, ◌&&◌, List, [], ◌∷◌, length, Option, None, count_by, slice_get, slice_index_or}
use Rattle.std.specs.List.{filter}
use Rattle.std.specs.Option.{option_map_or}
use Rattle.reh_census.specs.declared.bookies.Bookie.{Bookie}
use Rattle.reh_census.specs.Striping.{range}

-- whether the bookie's flag is set; one past the flags has none
abbrev pub is_flagged : List Bool → ℕ → Bool
is_flagged flags b = slice_index_or flags b false

-- the bookies: their names, which are registered, read-only, and back without their disks, their racks, and all racks
pub record Bookies : Type 0 where
  pub names : List ℕ
  pub is_registered : ℕ → Bool
  pub is_read_only : ℕ → Bool
  pub is_empty : ℕ → Bool
  pub rack_of : ℕ → Option ℕ
  pub racks : List ℕ

-- one past the bookie's rack
abbrev pub rack_stop : Bookie → ℕ
rack_stop bookie = option_map_or (λ rack. rack + 1) bookie.rack 0

-- one past the greatest rack in which a bookie stands
abbrev pub racks_stop : List Bookie → ℕ
racks_stop [] = 0
racks_stop (bookie ∷ bookies) = max (rack_stop bookie) (racks_stop bookies)

-- the bookies by number; one without a number isn't registered
abbrev pub bookies_of : List Bookie → Bookies
bookies_of bookies = record {
  names = range 0 (length bookies);
  is_registered = λ b. option_map_or (λ found. found.is_registered) (slice_get bookies b) false;
  is_read_only = λ b. option_map_or (λ found. found.is_read_only) (slice_get bookies b) false;
  is_empty = λ b. option_map_or (λ found. found.is_empty) (slice_get bookies b) false;
  rack_of = λ b. option_map_or (λ found. found.rack) (slice_get bookies b) None;
  racks = range 0 (racks_stop bookies);
}

-- no bookie is stopped
abbrev pub none : ℕ → Bool
none b = false

-- whether the bookie may hold copies: it is registered, and didn't come back without its disk
abbrev pub is_holder : Bookies → ℕ → Bool
is_holder bookies b = bookies.is_registered b && not (bookies.is_empty b)

-- those bookies, in order
abbrev pub holders : Bookies → List ℕ
holders bookies = filter (is_holder bookies) bookies.names

-- whether it may hold copies, and isn't stopped
abbrev pub is_holder_left : Bookies → (ℕ → Bool) → ℕ → Bool
is_holder_left bookies stopped b = is_holder bookies b && not (stopped b)

-- whether the bookie is registered, and not stopped
abbrev pub is_up : Bookies → (ℕ → Bool) → ℕ → Bool
is_up bookies stopped b = bookies.is_registered b && not (stopped b)

-- whether a new entry may be written to the bookie: its disk may be an empty one
abbrev pub is_writable : Bookies → (ℕ → Bool) → ℕ → Bool
is_writable bookies stopped b = is_up bookies stopped b && not (bookies.is_read_only b)

-- how many bookies may be written to
abbrev pub writable : Bookies → (ℕ → Bool) → ℕ
writable bookies stopped = count_by (is_writable bookies stopped) bookies.names
