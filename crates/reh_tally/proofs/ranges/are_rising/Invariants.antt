-- The ranges that are passed are rising.
use Rattle.std.proofs.Common.{◌<◌, ◌≤◌, ℕ, get_or}
use Rattle.reh_census.specs.declared.ledgers.Range.{Range}
use Rattle.reh_tally.proofs.ranges.are_rising.Given as goal

abbrev pub invariant-loop-index : goal.invariant-loop-index
invariant-loop-index l = record {
  some : (k : ℕ) (d : Range) → k < l.index → (get_or l.ranges k d).first ≤ (get_or l.ranges k d).last;
  order : (k n : ℕ) (d : Range) → k < n → n < l.index → (get_or l.ranges k d).last < (get_or l.ranges n d).first;
}
