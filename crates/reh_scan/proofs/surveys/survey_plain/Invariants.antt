-- The lines of the ledgers so far.
use Rattle.std.proofs.Common.{◌≡◌, take}
use Rattle.std.specs.List.{flat_map}
use Rattle.reh_model.specs.Survey.{lines_of}
use Rattle.reh_scan.proofs.surveys.survey_plain.Given as goal

abbrev pub invariant-loop-ledger : goal.invariant-loop-ledger
invariant-loop-ledger l = l.lines.items ≡ flat_map (lines_of l.state) (take l.ledger-index l.ledger-items)
