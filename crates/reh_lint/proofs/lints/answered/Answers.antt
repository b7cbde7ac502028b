use Rattle.std.proofs.Common.{◌∙◌, ◌<◌, ◌≤◌, ap, arith, length, sym}
use Rattle.reh_types.specs.declared.limits.TheConstants.{MAX_SCRIPT_BYTES}
use Rattle.reh_lines.specs.Lines.{ended, lines_of}
use Rattle.reh_lines.proofs.ScriptLaws.{answered_lines-long, answered_lines-whole, not_script}
use Rattle.reh_lint.proofs.lints.answered.Goals as goal

pub returns-then-script-gt-MAX_SCRIPT_BYTES : goal.returns-then-script-gt-MAX_SCRIPT_BYTES
returns-then-script-gt-MAX_SCRIPT_BYTES c =
    let long : MAX_SCRIPT_BYTES < length c.args.script.now = omega arith in
    ap lines_of (c.whole_lines.ensures ∙ ap ended c.front.ensures)
    ∙ sym (answered_lines-long _ c.args.script.now (not_script c.args.script.now long))

pub returns : goal.returns
returns c =
    let within : length c.args.script.now ≤ MAX_SCRIPT_BYTES = omega arith in sym (answered_lines-whole c.args.script.now within)
