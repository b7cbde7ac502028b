-- No range that is passed has an end before the next one.
use Rattle.std.proofs.Common.{◌≡◌, ◌<◌, ◌≤◌, ℕ, take}
use Rattle.std.specs.List.{list_any}
use Rattle.reh_census.specs.Ledgers.{is_within}
use Rattle.reh_tally.specs.Stretches.{IsEnd}
use Rattle.reh_tally.proofs.ranges.next_of.Given as goal

abbrev pub invariant-loop-range : goal.invariant-loop-range
invariant-loop-range l = record {
  later : l.at < l.next;
  within : l.next ≤ l.stop;
  end : IsEnd l.ranges l.stop l.next;
  same : (entry : ℕ) → l.at ≤ entry → entry < l.next
      → list_any (is_within entry) (take l.range-index l.ranges) ≡ list_any (is_within l.at) (take l.range-index l.ranges);
}
