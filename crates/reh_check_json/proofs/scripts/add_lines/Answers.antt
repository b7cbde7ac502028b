use Rattle.std.proofs.Common.{◌+◌, ℕ, List, ap, arith, length, sym}
use Rattle.std.specs.List.{filter}
use Rattle.reh_lines.specs.Lines.{lines_of}
use Rattle.reh_lint.specs.Lints.{is_command, is_faulty}
use Rattle.reh_lint.proofs.FindingLaws.{more_counted, none_left, one_at_most}
use Rattle.reh_check_json.proofs.TokenLaws.{found-more, leaves-more, leaves-none}
use Rattle.reh_check_json.proofs.scripts.add_lines.Goals as goal

pub loop-rest-preserved : goal.loop-rest-preserved
loop-rest-preserved c =
    let names : List (List ℕ) = c.args.known.now.state.now.names in
    let line : List ℕ = c.first_line.result.0.now in
    let more : List (List ℕ) = lines_of c.first_line.result.1.now in
    let before = c.loop-rest.invariant in
    let next = c.in_ok-add_line.ensures in (
      leaves-more _ _ _ _ _ _ _ (found-more c.args.known.now.state.now (c.loop-rest.number + 1) line more _ c.first_line.ensures.lines) before.0 next.adds,
      more_counted (is_command names) line more _ _ _ _ c.first_line.ensures.lines before.1 next.commands,
      more_counted (is_faulty names) line more _ _ _ _ c.first_line.ensures.lines before.2 next.faulty,
      omega (arith, before.3, c.first_line.ensures.shorter),
      omega (arith, before.4, next.commands, one_at_most (is_command names line)),
      omega (arith, before.5, next.faulty, one_at_most (is_faulty names line)),
    )

pub returns-clause-adds : goal.returns-clause-adds
returns-clause-adds c =
    leaves-none c.args.known.now.state.now (c.loop-rest.number + 1) _ _ _ _
    (none_left c.loop-rest.rest.now (sym c.loop-rest-test.ensures)) c.loop-rest.invariant.0

pub returns-clause-commands : goal.returns-clause-commands
returns-clause-commands c =
    let none = none_left c.loop-rest.rest.now (sym c.loop-rest-test.ensures) in
    let left = ap (λ (ls : List (List ℕ)). length (filter (is_command c.args.known.now.state.now.names) ls)) none in
    omega (arith, left, c.loop-rest.invariant.1)

pub returns-clause-faulty : goal.returns-clause-faulty
returns-clause-faulty c =
    let none = none_left c.loop-rest.rest.now (sym c.loop-rest-test.ensures) in
    let left = ap (λ (ls : List (List ℕ)). length (filter (is_faulty c.args.known.now.state.now.names) ls)) none in
    omega (arith, left, c.loop-rest.invariant.2)
