-- How often the entries of a census break the rules.
use Rattle.std.specs.Prelude.{ℕ, Bool, ◌&&◌, nat_lt, length}
use Rattle.reh_census.specs.declared.classes.Class.{Class}
use Rattle.reh_census.specs.declared.questions.Keep.{Keep}
use Rattle.reh_census.specs.Rules.{copies_to_keep, falls, loses, may_fall, may_lose, not_sure}
use Rattle.reh_rules.specs.declared.entries.Breaks.{Breaks}
use Rattle.reh_rules.specs.declared.entries.Entries.{Entries}

-- whether an entry has fewer known copies than are to be kept, where disks go for good
abbrev pub on_disk : Keep → Bool → Class → Bool
on_disk keep takes_disk class = nat_lt (length class.known) (copies_to_keep keep class.ack_quorum) && takes_disk

-- which rules an entry of this class breaks
abbrev pub breaks_of : Keep → Bool → (ℕ → Bool) → Class → Breaks
breaks_of keep takes_disk stopped class = record {
  lost = loses stopped class;
  may_be_lost = not_sure (loses stopped) (may_lose stopped) class;
  fallen = falls keep stopped class;
  may_be_fallen = not_sure (falls keep stopped) (may_fall keep stopped) class;
  on_disk = on_disk keep takes_disk class;
}

-- how many entries break each rule, by a count of entries that pass a test
abbrev pub entries_of : ((Class → Bool) → ℕ) → Keep → Bool → (ℕ → Bool) → Entries
entries_of count keep takes_disk stopped = record {
  lost = count (loses stopped);
  may_be_lost = count (not_sure (loses stopped) (may_lose stopped));
  fallen = count (falls keep stopped);
  may_be_fallen = count (not_sure (falls keep stopped) (may_fall keep stopped));
  on_disk = count (on_disk keep takes_disk);
}
