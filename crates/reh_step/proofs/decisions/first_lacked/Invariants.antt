-- The first entry that the bookie lacks is in the words that are left, whose numbers rise.
use Rattle.std.proofs.Common.{◌≡◌, ℕ, not}
use Rattle.std.specs.List.{find}
use Rattle.reh_model.specs.Cluster.{holds}
use Rattle.reh_stripe.specs.Words.{AreRising, entries_of}
use Rattle.reh_step.proofs.decisions.first_lacked.Given as goal

abbrev pub invariant-loop-word : goal.invariant-loop-word
invariant-loop-word l = record {
  first : find (λ e. not (holds l.state l.fn.bookie l.ledger.id e)) l.fn.entries
      ≡ find (λ e. not (holds l.state l.fn.bookie l.ledger.id e)) (entries_of l.word-iterator);
  rising : (k : ℕ) × AreRising k l.word-iterator;
}
