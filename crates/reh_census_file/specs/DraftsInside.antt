-- What a `Draft` stands for.
use Rattle.std.specs.Prelude.{◌≡◌, ◌≤◌, ◌^◌, length, All, IfSome}
use Rattle.reh_census.specs.Counting.{ensembles_in, entries_in, not_judged, tails_in}
use Rattle.reh_census.specs.Tails.{IsTail}
use Rattle.reh_census_file.specs.declared.drafts.Draft.TheInside.{Inside}
use Rattle.reh_census_file.specs.Drafts.{Draft}

abbrev pub draft_in : Inside → Draft
draft_in a = record {
  names = a.names;
  racks = a.racks;
  bookies = a.bookies.items;
  judged = a.judged;
  entries = a.entries.items;
  tails = a.tails.items;
  ensembles = a.ensembles.items;
}

-- no more bookies and racks than names; the sums are those of the counts
pub record IsDraftIn (a : Inside) : Type 0 where
  pub few_bookies : length a.bookies.items ≤ length a.names
  pub few_racks : length a.racks ≤ length a.names
  pub judged : IfSome a.judged (λ judged. not_judged judged ≤ 2 ^ 63)
  pub entries : entries_in a.entries.items ≡ a.entry_count
  pub few_entries : a.entry_count ≤ 2 ^ 63
  pub tails : tails_in a.tails.items ≡ a.tail_count
  pub few_tails : a.tail_count ≤ 2 ^ 63
  pub well_formed : All (λ t. IsTail t.tail) a.tails.items
  pub ensembles : ensembles_in a.ensembles.items ≡ a.ensemble_count
  pub few_ensembles : a.ensemble_count ≤ 2 ^ 63
