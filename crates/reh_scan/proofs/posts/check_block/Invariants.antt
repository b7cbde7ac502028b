-- The first source that is lost is one of those of the words that are left, whose numbers rise; those of the entries that
-- are passed are cut off.
use Rattle.std.proofs.Common.{◌≡◌, ◌+◌, ℕ, map, drop, length}
use Rattle.std.specs.List.{zip}
use Rattle.reh_model.specs.Checks.{first_reason}
use Rattle.reh_stripe.specs.Words.{AreRising, entries_of}
use Rattle.reh_scan.specs.Posts.{lost_copy}
use Rattle.reh_scan.proofs.posts.check_block.Given as goal

abbrev pub invariant-loop-word : goal.invariant-loop-word
invariant-loop-word l = record {
  lost : first_reason (map (lost_copy l.rows l.metadata l.fragment) (zip l.fn.entries l.fn.sources))
      ≡ first_reason (map (lost_copy l.rows l.metadata l.fragment) (zip (entries_of l.word-iterator) l.rest));
  passed : (n : ℕ) × (n + length (entries_of l.word-iterator) ≡ length l.fn.entries) × (l.rest ≡ drop n l.fn.sources);
  rising : (k : ℕ) × AreRising k l.word-iterator;
}
