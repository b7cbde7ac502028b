use Rattle.std.proofs.Common.{◌∙◌, ◌+◌, ◌++◌, ℕ, List, ap, arith, length, string_bytes, sym}
use Rattle.std.proofs.lemmas.List.{append-nil}
use Rattle.std.specs.List.{filter}
use Rattle.reh_lines.specs.Lines.{lines_of}
use Rattle.reh_lint.specs.Lints.{findings, is_command, is_faulty}
use Rattle.reh_lint.proofs.FindingLaws.{more_counted, more_found, none_left, one_at_most}
use Rattle.reh_lint.proofs.lints.lint_lines.Goals as goal

pub loop-rest-preserved : goal.loop-rest-preserved
loop-rest-preserved c =
    let names : List (List ℕ) = c.args.known.now.state.now.names in
    let line : List ℕ = c.first_line.result.0.now in
    let more : List (List ℕ) = lines_of c.first_line.result.1.now in
    let before = c.loop-rest.invariant in
    let next = c.in_ok-lint_line.ensures in (
      more_found c.args.path.now c.args.known.now.state.now (c.loop-rest.number + 1) line more _ _ _ _ c.first_line.ensures.lines before.0 next.findings,
      more_counted (is_command names) line more _ _ _ _ c.first_line.ensures.lines before.1 next.commands,
      more_counted (is_faulty names) line more _ _ _ _ c.first_line.ensures.lines before.2 next.faulty,
      omega (arith, before.3, c.first_line.ensures.shorter),
      omega (arith, before.4, next.commands, one_at_most (is_command names line)),
      omega (arith, before.5, next.faulty, one_at_most (is_faulty names line)),
    )

pub returns-clause-findings : goal.returns-clause-findings
returns-clause-findings c =
    let none = none_left c.loop-rest.rest.now (sym c.loop-rest-test.ensures) in
    let text : List ℕ = string_bytes c.loop-rest.lint.text in
    sym (append-nil text)
    ∙ ap (λ (ls : List (List ℕ)). text ++ findings c.args.path.now c.args.known.now.state.now (c.loop-rest.number + 1) ls) (sym none)
    ∙ c.loop-rest.invariant.0

pub returns-clause-commands : goal.returns-clause-commands
returns-clause-commands c =
    let none = none_left c.loop-rest.rest.now (sym c.loop-rest-test.ensures) in
    let left = ap (λ (ls : List (List ℕ)). length (filter (is_command c.args.known.now.state.now.names) ls)) none in
    omega (arith, left, c.loop-rest.invariant.1)

pub returns-clause-faulty : goal.returns-clause-faulty
returns-clause-faulty c =
    let none = none_left c.loop-rest.rest.now (sym c.loop-rest-test.ensures) in
    let left = ap (λ (ls : List (List ℕ)). length (filter (is_faulty c.args.known.now.state.now.names) ls)) none in
    omega (arith, left, c.loop-rest.invariant.2)
