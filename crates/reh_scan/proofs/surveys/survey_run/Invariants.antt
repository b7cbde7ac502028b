-- The lines so far, and those that are wanted of the ledgers that are left.
use Rattle.std.proofs.Common.{◌≡◌, ◌++◌, drop, take}
use Rattle.std.specs.List.{flat_map}
use Rattle.reh_model.specs.Survey.{lines_of, survey}
use Rattle.reh_scan.proofs.surveys.survey_run.Given as goal

abbrev pub invariant-loop-ledger : goal.invariant-loop-ledger
invariant-loop-ledger l =
    l.lines.items ++ take l.wanted (drop l.before (flat_map (lines_of l.state) (drop l.ledger-index l.ledger-items)))
    ≡ take l.fn.count (drop l.fn.first (survey l.state))
