-- What is added so far, and the changes of the fragments that are left.
use Rattle.std.proofs.Common.{drop}
use Rattle.reh_run_json.specs.Changes.{fragment_changes}
use Rattle.reh_run_json.specs.Values.{tokens_of}
use Rattle.reh_run_json.proofs.TokenLaws.{Leaves}
use Rattle.reh_run_json.proofs.fragments.add_fragments.Given as goal

abbrev pub invariant-loop-f : goal.invariant-loop-f
invariant-loop-f l =
    Leaves (tokens_of (fragment_changes l.names l.id l.f (drop l.f l.was) (drop l.f l.now)))
    (tokens_of (fragment_changes l.names l.id 0 l.was l.now)) l.fn.json l.json
