-- A line more.
use Rattle.std.proofs.Common.{◌≡◌, ◌∙◌, ◌+◌, ◌-◌, ◌++◌, ◌∷◌, [], ℕ, List, map, drop, length, take, ap, sym, arith}
use Rattle.std.specs.List.{enumerate_from}
use Rattle.reh_types.specs.declared.surveys.SurveyLine.{SurveyLine}
use Rattle.reh_model.specs.Metadata.{Fragment, Metadata}
use Rattle.reh_model.specs.Survey.{line_of}
use Rattle.reh_scan.proofs.SurveyLaws.{run-more}
use Rattle.reh_scan.proofs.surveys.push_run.Goals as goal

pub loop-number-preserved : goal.loop-number-preserved
loop-number-preserved c =
    let line : ℕ × Fragment → SurveyLine = λ p. line_of c.args.state.now c.args.ledger.now p.0 p.1 in
    let fragments : List Fragment = c.fragments-fragments.result.now in
    let here : fragments ≡ c.args.ledger.now.metadata.fragments =
    c.fragments-fragments.ensures.fragments ∙ ap (λ (m : Metadata). m.fragments) c.metadata-metadata.ensures in
    let many : length fragments ≡ length c.args.ledger.now.metadata.fragments = ap length here in
    c.in_ok-push.ensures.items
    ∙ (λ j. c.loop-number.invariant j ++ c.fragment_line.ensures j ∷ [])
    ∙ ap (λ (gs : List Fragment).
    (c.args.lines.now.items
    ++ take (c.loop-number.number - c.args.first) (drop c.args.first (map line (enumerate_from 0 gs))))
    ++ line (c.loop-number.number, c.index-fragments-number.result) ∷ []) (sym here)
    ∙ run-more line c.args.lines.now.items fragments c.args.first c.loop-number.number c.index-fragments-number.result
    (omega arith) (omega (arith, many)) c.index-fragments-number.is
    ∙ ap (λ (gs : List Fragment).
    c.args.lines.now.items
    ++ take (c.loop-number.number + 1 - c.args.first) (drop c.args.first (map line (enumerate_from 0 gs)))) here
