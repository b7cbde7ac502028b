-- What is added so far, and the fragments that are left.
use Rattle.std.proofs.Common.{drop}
use Rattle.reh_run_json.proofs.ReportLaws.{fragments_from}
use Rattle.reh_run_json.proofs.TokenLaws.{Leaves}
use Rattle.reh_run_json.proofs.ledgers.add_each_fragment.Given as goal

abbrev pub invariant-loop-f : goal.invariant-loop-f
invariant-loop-f l =
    Leaves (fragments_from l.names l.metadata l.f (drop l.f l.metadata.fragments))
    (fragments_from l.names l.metadata 0 l.metadata.fragments) l.fn.json l.json
