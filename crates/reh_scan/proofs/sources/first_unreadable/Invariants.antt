-- The first entry that can't be read is in the words that are left, whose numbers rise.
use Rattle.std.proofs.Common.{◌≡◌, ℕ, not}
use Rattle.std.specs.List.{find}
use Rattle.reh_model.specs.Cluster.{is_readable}
use Rattle.reh_stripe.specs.Words.{AreRising, entries_of}
use Rattle.reh_scan.proofs.sources.first_unreadable.Given as goal

abbrev pub invariant-loop-word : goal.invariant-loop-word
invariant-loop-word l = record {
  first : find (λ e. not (is_readable l.state l.ledger l.fragment e)) l.fn.entries
      ≡ find (λ e. not (is_readable l.state l.ledger l.fragment e)) (entries_of l.word-iterator);
  rising : (k : ℕ) × AreRising k l.word-iterator;
}
