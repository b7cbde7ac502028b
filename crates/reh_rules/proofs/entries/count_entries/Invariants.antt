-- Those of the classes that are passed.
use Rattle.std.proofs.Common.{◌≡◌, take}
use Rattle.reh_census.specs.Bookies.{is_flagged}
use Rattle.reh_census.specs.Counting.{count_in}
use Rattle.reh_census.specs.Rules as rules
use Rattle.reh_rules.specs.Entries.{on_disk}
use Rattle.reh_rules.proofs.entries.count_entries.Given as goal

abbrev pub invariant-loop-counted : goal.invariant-loop-counted
invariant-loop-counted l = record {
  lost : l.lost ≡ count_in (take l.counted-index l.census) (rules.loses (is_flagged l.stopped));
  may_be_lost : l.may_be_lost ≡ count_in (take l.counted-index l.census) (rules.not_sure (rules.loses (is_flagged l.stopped)) (rules.may_lose (is_flagged l.stopped)));
  fallen : l.fallen ≡ count_in (take l.counted-index l.census) (rules.falls l.keep (is_flagged l.stopped));
  may_be_fallen : l.may_be_fallen ≡ count_in (take l.counted-index l.census) (rules.not_sure (rules.falls l.keep (is_flagged l.stopped)) (rules.may_fall l.keep (is_flagged l.stopped)));
  on_disk : l.on_disk ≡ count_in (take l.counted-index l.census) (on_disk l.keep l.takes_disk);
}
