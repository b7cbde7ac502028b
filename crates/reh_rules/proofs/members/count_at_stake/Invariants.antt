-- Those of the ranks that are passed.
use Rattle.std.proofs.Common.{◌≡◌, ◌≤◌, map}
use Rattle.std.specs.Prelude.{count_by, slice_index}
use Rattle.reh_census.specs.Bookies.{bookies_of, is_flagged}
use Rattle.reh_census.specs.Tails.{is_at_stake}
use Rattle.reh_census.specs.Striping.{index_at, range}
use Rattle.reh_rules.proofs.members.count_at_stake.Given as goal

abbrev pub invariant-loop-rank : goal.invariant-loop-rank
invariant-loop-rank l = record {
  counted : l.count
      ≡ count_by (is_at_stake (bookies_of l.bookies) l.question (is_flagged l.stopped))
      (map (λ i. slice_index l.tail.ensemble i) (map (index_at l.entry l.tail.size) (range 0 l.rank)));
  within : l.count ≤ l.rank;
}
