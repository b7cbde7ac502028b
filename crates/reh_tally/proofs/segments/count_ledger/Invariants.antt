-- The entries of the fragments that are passed.
use Rattle.std.proofs.Common.{◌≡◌, ◌+◌, Bool, take}
use Rattle.std.specs.Prelude.{sum_by}
use Rattle.reh_census.specs.declared.classes.Class.{Class}
use Rattle.reh_census.specs.Counting.{count_in, count_fragment}
use Rattle.reh_tally.specs.Members.{names_of}
use Rattle.reh_tally.proofs.segments.count_ledger.Given as goal

abbrev pub invariant-loop-fragment : goal.invariant-loop-fragment
invariant-loop-fragment l =
    (test : Class → Bool)
    → count_in l.census.items test
    ≡ count_in l.initial.census.items test
    + sum_by (count_fragment (names_of l.bookies) l.ledger test) (take l.fragment-index l.fragment-items)
