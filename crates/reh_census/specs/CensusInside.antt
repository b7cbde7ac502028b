-- What a `Census` stands for.
use Rattle.reh_census.specs.Counting.{Census, IsWithin}
use Rattle.reh_census.specs.declared.censuses.Census.TheInside.{Inside}

abbrev pub census_in : Inside → Census
census_in a = record {
  entries = a.entries.items;
  tails = a.tails.items;
  ensembles = a.ensembles.items;
  judged = a.judged;
}

abbrev pub IsCensusIn : Inside → Type 0
IsCensusIn a = IsWithin (census_in a)
