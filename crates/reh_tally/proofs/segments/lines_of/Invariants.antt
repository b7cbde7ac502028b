-- The entries that are passed.
use Rattle.std.proofs.Common.{◌≡◌, ◌-◌, ◌≤◌, Bool, All}
use Rattle.reh_census.specs.declared.classes.Class.{Class}
use Rattle.reh_census.specs.Counting.{count_between}
use Rattle.reh_tally.specs.Cursors.{IsCursor, IsFar, members_of}
use Rattle.reh_tally.specs.Segments.{count_classes}
use Rattle.reh_tally.proofs.segments.lines_of.Given as goal

abbrev pub invariant-loop-at : goal.invariant-loop-at
invariant-loop-at l = record {
  low : l.fragment.first ≤ l.at;
  high : l.at ≤ l.fragment.stop;
  members : members_of l.cursors.items ≡ l.members;
  told : All (IsCursor l.ledger l.at) l.cursors.items;
  far : All (IsFar l.ledger l.at l.fragment.stop) l.cursors.items;
  counts : (test : Class → Bool)
      → count_classes l.members l.ledger l.lines test ≡ count_between l.members l.ledger l.fragment l.fragment.first l.at test;
}

abbrev pub decreases-loop-at : goal.decreases-loop-at
decreases-loop-at l = l.fragment.stop - l.at
