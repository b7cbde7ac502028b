use Rattle.std.proofs.Common.{List, ◌∙◌, arith}
use Rattle.std.specs.Prelude.{flat_map}
use Rattle.reh_model.specs.Cluster.{Ledger}
use Rattle.reh_commands.specs.Texts.{text_of, ledger_lines}
use Rattle.reh_commands.proofs.ReportLaws.{printed_more, text_of-append}
use Rattle.reh_commands.proofs.reports.push_ledgers.Goals as goal

pub loop-ledger-preserved : goal.loop-ledger-preserved
loop-ledger-preserved c =
    let names = c.args.names.now in
    rw c.in_ok-push_ledger.ensures (printed_more (λ (ledgers : List Ledger). text_of (flat_map (ledger_lines names) ledgers)) (λ g. text_of (ledger_lines names g))
    (λ g gs. text_of-append (ledger_lines names g) (flat_map (ledger_lines names) gs)) _ c.args.ledgers.now c.loop-ledger.ledger-index c.ledger-item.result (omega arith) c.ledger-item.is ∙ c.loop-ledger.invariant)
