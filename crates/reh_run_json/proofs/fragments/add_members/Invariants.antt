-- What is added so far, and the changes of the members that are left.
use Rattle.std.proofs.Common.{drop}
use Rattle.reh_run_json.specs.Changes.{member_changes}
use Rattle.reh_run_json.specs.Values.{tokens_of}
use Rattle.reh_run_json.proofs.TokenLaws.{Leaves}
use Rattle.reh_run_json.proofs.fragments.add_members.Given as goal

abbrev pub invariant-loop-i : goal.invariant-loop-i
invariant-loop-i l =
    Leaves (tokens_of (member_changes l.names l.id l.fragment l.i (drop l.i l.was) (drop l.i l.now)))
    (tokens_of (member_changes l.names l.id l.fragment 0 l.was l.now)) l.fn.json l.json
