-- What is added so far, and the bookies that are left.
use Rattle.std.proofs.Common.{drop}
use Rattle.reh_run_json.proofs.ReportLaws.{bookies_from}
use Rattle.reh_run_json.proofs.TokenLaws.{Leaves}
use Rattle.reh_run_json.proofs.reports.add_each_bookie.Given as goal

abbrev pub invariant-loop-i : goal.invariant-loop-i
invariant-loop-i l =
    Leaves (bookies_from l.state l.i (drop l.i l.state.names)) (bookies_from l.state 0 l.state.names) l.fn.json l.json
