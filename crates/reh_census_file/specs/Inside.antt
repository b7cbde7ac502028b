-- What a `NamedCensus` stands for.
use Rattle.std.specs.Prelude.{string_bytes}
use Rattle.std.specs.Option.{option_map}
use Rattle.reh_census_file.specs.Values.{NamedCensus}
use Rattle.reh_census_file.specs.declared.values.NamedCensus.TheInside.{Inside}

abbrev pub named_in : Inside → NamedCensus
named_in a = record {
  names = a.names;
  racks = a.racks;
  bookies = a.bookies;
  census = a.census;
  is_strict = a.is_strict;
  taken = option_map (λ s. string_bytes s) a.taken;
}
