-- The sources of the words that are passed come before those of the words that are left, whose numbers rise, and none of
-- whose entries is before the first.
use Rattle.std.proofs.Common.{◌≡◌, ◌≤◌, ◌++◌, ℕ, map, All}
use Rattle.reh_stripe.specs.Words.{AreRising, entries_of}
use Rattle.reh_scan.specs.Jobs.{source_in}
use Rattle.reh_scan.proofs.jobs.block_sources.Given as goal

abbrev pub invariant-loop-word : goal.invariant-loop-word
invariant-loop-word l = record {
  sources : l.sources.items ++ map (source_in l.reading) (entries_of l.word-iterator)
      ≡ map (source_in l.reading) l.fn.entries;
  from : All (λ entry. l.reading.first ≤ entry) (entries_of l.word-iterator);
  rising : (k : ℕ) × AreRising k l.word-iterator;
}
