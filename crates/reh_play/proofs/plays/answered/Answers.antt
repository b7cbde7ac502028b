use Rattle.std.proofs.Common.{◌∙◌, ◌<◌, ◌≤◌, List, ℕ, length, sym, ap, arith, false}
use Rattle.reh_types.specs.declared.limits.TheConstants.{MAX_SCRIPT_BYTES}
use Rattle.reh_lines.specs.Lines.{lines_of, ended}
use Rattle.reh_lines.proofs.ScriptLaws.{answered_lines-long, answered_lines-whole, not_script}
use Rattle.reh_play.proofs.plays.answered.Goals as goal

pub returns-then-script-gt-MAX_SCRIPT_BYTES-clause-lines : goal.returns-then-script-gt-MAX_SCRIPT_BYTES-clause-lines
returns-then-script-gt-MAX_SCRIPT_BYTES-clause-lines c =
    let long : MAX_SCRIPT_BYTES < length c.args.script.now = omega arith in
    ap lines_of c.whole_lines.ensures ∙ ap (λ (text : List ℕ). lines_of (ended text)) c.front-first.ensures
    ∙ sym (answered_lines-long false c.args.script.now (not_script c.args.script.now long))

pub returns-clause-lines : goal.returns-clause-lines
returns-clause-lines c =
    let within : length c.args.script.now ≤ MAX_SCRIPT_BYTES = omega arith in
    sym (answered_lines-whole c.args.script.now within)
