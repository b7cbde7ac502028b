-- What is added so far.
use Rattle.std.proofs.Common.{take}
use Rattle.std.specs.Prelude.{flat_map}
use Rattle.json.specs.Tree.{json_tokens}
use Rattle.reh_answer.specs.Objects.{Adds}
use Rattle.reh_run_json.specs.Reports.{ledger_json}
use Rattle.reh_run_json.proofs.reports.add_each_ledger.Given as goal

abbrev pub invariant-loop-ledger : goal.invariant-loop-ledger
invariant-loop-ledger l =
    Adds (flat_map (λ x. json_tokens (ledger_json l.names x)) (take l.ledger-index l.ledgers)) l.fn.json l.json
