-- The lines of a ledger more.
use Rattle.std.proofs.Common.{◌≡◌, ◌∙◌, ◌++◌, List, ap, length, sym}
use Rattle.reh_types.specs.declared.surveys.SurveyLine.{SurveyLine}
use Rattle.reh_model.specs.Metadata.{Metadata}
use Rattle.reh_model.specs.Cluster.{Ledger}
use Rattle.reh_model.specs.Survey.{line_of, lines_of}
use Rattle.reh_scan.proofs.SurveyLaws.{length-numbered, lines-more, run-whole}
use Rattle.reh_scan.proofs.surveys.survey_plain.Goals as goal

pub loop-ledger-preserved : goal.loop-ledger-preserved
loop-ledger-preserved c =
    let g : Ledger = c.ledger-item.result in
    let lines : List SurveyLine = lines_of c.args.state.now g in
    let there : length c.fragments.result.now ≡ length lines =
    ap length (c.fragments.ensures.fragments ∙ ap (λ (m : Metadata). m.fragments) c.metadata.ensures)
    ∙ sym (length-numbered (λ p. line_of c.args.state.now g p.0 p.1) g.metadata.fragments) in
    c.in_ok-push_run.ensures
    ∙ (λ j. c.loop-ledger.invariant j ++ run-whole lines (length c.fragments.result.now) there j)
    ∙ lines-more (lines_of c.args.state.now) c.ledgers-ledger-items.result.now c.loop-ledger.ledger-index g
    c.loop-ledger-test.true c.ledger-item.is
