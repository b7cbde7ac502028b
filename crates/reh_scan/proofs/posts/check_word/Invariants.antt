-- The first source that is lost is one of those that are left.
use Rattle.std.proofs.Common.{◌≡◌, map}
use Rattle.std.specs.List.{zip}
use Rattle.std.specs.Iterator.Adapters.{zip_first, zip_second}
use Rattle.std.specs.Slice.Iter.{iter_rest}
use Rattle.reh_model.specs.Checks.{first_reason}
use Rattle.reh_stripe.specs.Words.{entries_in}
use Rattle.reh_scan.specs.Posts.{lost_bit}
use Rattle.reh_scan.proofs.posts.check_word.Given as goal

abbrev pub invariant-loop-entry : goal.invariant-loop-entry
invariant-loop-entry l =
    first_reason (map (lost_bit l.copies) (zip (entries_in l.fn.word) l.fn.sources))
    ≡ first_reason (map (lost_bit l.copies) (zip (zip_first l.entry-iterator) (iter_rest (zip_second l.entry-iterator))))
