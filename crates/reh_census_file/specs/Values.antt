-- A census of named bookies.
use Rattle.std.specs.Prelude.{ℕ, Bool, List, Option}
use Rattle.reh_census.specs.declared.bookies.Bookie.{Bookie}
use Rattle.reh_census.specs.Counting.{Census}

-- the names of the bookies and of the racks by number; the bookies by number; what was counted; whether what is assumed
-- counts as untold; when the oldest input was taken
pub record NamedCensus : Type 0 where
  pub names : List (List ℕ)
  pub racks : List (List ℕ)
  pub bookies : List Bookie
  pub census : Census
  pub is_strict : Bool
  pub taken : Option (List ℕ)

abbrev pub named_by : List (List ℕ) → List (List ℕ) → List Bookie → Census → Bool → Option (List ℕ) → NamedCensus
named_by names racks bookies census is_strict taken = record {
  names = names;
  racks = racks;
  bookies = bookies;
  census = census;
  is_strict = is_strict;
  taken = taken;
}
