-- The census of gathered inputs, by the names of its bookies and racks.
use Rattle.std.specs.Prelude.{ℕ, Bool, List, [], ◌∷◌, Option, None, Some, fold, map, position, if◌then◌else◌}
use Rattle.std.specs.Option.{option_and_then}
use Rattle.std.specs.Ordering.{is_lt}
use Rattle.std.specs.Str.{bytes_eq}
use Rattle.reh_census.specs.declared.bookies.Bookie.{Bookie}
use Rattle.reh_census.specs.Order.{names_cmp}
use Rattle.reh_census_file.specs.Names.{with_name}
use Rattle.reh_census_file.specs.Values.{NamedCensus, named_by}
use Rattle.reh_inputs.specs.declared.inputs.Input.{Input}
use Rattle.reh_inputs.specs.declared.inputs.Input.TheVariants.{Picture, Census}
use Rattle.reh_inputs.specs.declared.together.Gathered.{Gathered}
use Rattle.reh_inputs.specs.Shown.{Shown}

-- the racks, each once, as bookies first name them
abbrev pub with_rack : List (List ℕ) → Option (List ℕ) → List (List ℕ)
with_rack racks None = racks
with_rack racks (Some rack) = with_name racks rack

abbrev pub racks_of : List Shown → List (List ℕ)
racks_of all = fold (λ racks b. with_rack racks b.rack) [] all

-- a bookie, by the number of its rack among these
abbrev pub bookie_in : List (List ℕ) → Shown → Bookie
bookie_in racks b = record {
  is_registered = b.is_registered;
  is_read_only = b.is_read_only;
  is_empty = b.is_empty;
  rack = option_and_then (λ rack. position (bytes_eq rack) racks) b.rack;
}

abbrev pub named_of : Gathered → Bool → Option (List ℕ) → NamedCensus
named_of g is_strict taken =
    named_by g.cluster.names (racks_of g.cluster.shown) (map (bookie_in (racks_of g.cluster.shown)) g.cluster.shown)
    g.census is_strict taken

-- when an input was taken: a picture doesn't tell
abbrev pub taken_in : Input → Option (List ℕ)
taken_in (Picture l) = None
taken_in (Census c) = c.taken

-- the earlier of two times, if both are known
abbrev pub earlier : Option (List ℕ) → Option (List ℕ) → Option (List ℕ)
earlier None other = None
earlier (Some one) None = None
earlier (Some one) (Some other) = Some (if is_lt (names_cmp other one) then other else one)

-- when the oldest of the inputs was taken, if each tells its time
abbrev pub taken_of : List Input → Option (List ℕ)
taken_of [] = None
taken_of (input ∷ []) = taken_in input
taken_of (input ∷ next ∷ inputs) = earlier (taken_in input) (taken_of (next ∷ inputs))
