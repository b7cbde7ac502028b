-- The lines so far.
use Rattle.std.proofs.Common.{◌≡◌, ◌++◌, ◌-◌, drop, take}
use Rattle.reh_model.specs.Survey.{lines_of}
use Rattle.reh_scan.proofs.surveys.push_run.Given as goal

abbrev pub invariant-loop-number : goal.invariant-loop-number
invariant-loop-number l =
    l.lines.items ≡ l.fn.lines.items ++ take (l.number - l.first) (drop l.first (lines_of l.state l.ledger))
