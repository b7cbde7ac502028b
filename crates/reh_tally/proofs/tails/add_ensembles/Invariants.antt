-- The ensembles of the fragments that are passed.
use Rattle.std.proofs.Common.{◌≡◌, ◌+◌, ℕ, Bool, List, take}
use Rattle.std.specs.Prelude.{count_by}
use Rattle.reh_census.specs.Copies.{in_order}
use Rattle.reh_census.specs.Counting.{count_ensembles_in}
use Rattle.reh_tally.proofs.tails.add_ensembles.Given as goal

abbrev pub invariant-loop-fragment : goal.invariant-loop-fragment
invariant-loop-fragment l =
    (test : List ℕ → Bool)
    → count_ensembles_in l.ensembles.items test
    ≡ count_ensembles_in l.initial.ensembles.items test
    + count_by (λ fragment. test (in_order fragment.ensemble)) (take l.fragment-index l.fragments)
