-- The sources of the entries that are passed come before those of the entries that are left, which are in the word and
-- not before the first.
use Rattle.std.proofs.Common.{◌≡◌, ◌≤◌, ◌++◌, ◌/◌, map, All}
use Rattle.reh_stripe.specs.Words.{entries_in}
use Rattle.reh_scan.specs.Jobs.{source_in}
use Rattle.reh_scan.proofs.jobs.push_sources.Given as goal

abbrev pub invariant-loop-entry : goal.invariant-loop-entry
invariant-loop-entry l = record {
  sources : l.sources.items ++ map (source_in l.reading) l.entry-iterator
      ≡ l.fn.sources.items ++ map (source_in l.reading) (entries_in l.fn.word);
  within : All (λ entry. entry / 64 ≡ l.fn.word.number) l.entry-iterator;
  from : All (λ entry. l.reading.first ≤ entry) l.entry-iterator;
}
