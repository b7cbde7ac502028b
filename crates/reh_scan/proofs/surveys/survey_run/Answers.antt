-- The lines of a ledger more, and a run of what is left.
use Rattle.std.proofs.Common.{◌≡◌, ◌∙◌, ◌+◌, ◌-◌, ◌++◌, List, ap, length, min, take, drop, sym}
use Rattle.std.specs.List.{flat_map}
use Rattle.reh_types.specs.declared.surveys.SurveyLine.{SurveyLine}
use Rattle.reh_model.specs.Metadata.{Metadata}
use Rattle.reh_model.specs.Cluster.{Ledger}
use Rattle.reh_model.specs.Survey.{line_of, lines_of}
use Rattle.reh_scan.proofs.SurveyLaws.{length-numbered, run-on}
use Rattle.reh_scan.proofs.surveys.survey_run.Goals as goal

pub loop-ledger-preserved : goal.loop-ledger-preserved
loop-ledger-preserved c =
    let g : Ledger = c.ledger-item.result in
    let f = lines_of c.args.state.now in
    let there : length c.fragments-there.result.now ≡ length (f g) =
    ap length (c.fragments-there.ensures.fragments ∙ ap (λ (m : Metadata). m.fragments) c.metadata.ensures)
    ∙ sym (length-numbered (λ p. line_of c.args.state.now g p.0 p.1) g.metadata.fragments) in
    ap (λ (ls : List SurveyLine).
    ls
    ++ take (c.loop-ledger.wanted - c.min-run.result)
    (drop (c.loop-ledger.before - c.min-skipped.result)
    (flat_map f (drop (c.loop-ledger.ledger-index + 1) c.ledgers-ledger-items.result.now)))) c.in_ok-push_run.ensures
    ∙ run-on f c.loop-ledger.lines.items c.ledgers-ledger-items.result.now c.loop-ledger.ledger-index g
    c.loop-ledger.before c.loop-ledger.wanted c.min-skipped.result c.min-run.result
    c.loop-ledger-test.true c.ledger-item.is
    (c.min-skipped.ensures ∙ ap (λ n. min c.loop-ledger.before n) there)
    (c.min-run.ensures ∙ ap (λ n. min c.loop-ledger.wanted (n - c.min-skipped.result)) there)
    ∙ c.loop-ledger.invariant
