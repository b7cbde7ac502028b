-- The entries of the words that are passed, at most 64 of each, and those of the words that are left.
use Rattle.std.proofs.Common.{◌≡◌, ◌≤◌, ◌+◌, ◌*◌, ℕ, length}
use Rattle.reh_stripe.specs.Words.{AreRising, entries_of}
use Rattle.reh_stripe.proofs.striped.Striped.len.Given as goal

abbrev pub invariant-loop-word : goal.invariant-loop-word
invariant-loop-word l = record {
  all : l.count + length (entries_of l.word-iterator) ≡ length l.self;
  few : (k : ℕ) × AreRising k l.word-iterator × (l.count ≤ 64 * k);
}
