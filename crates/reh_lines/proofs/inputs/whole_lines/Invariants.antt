use Rattle.std.proofs.Common.{◌≡◌, ◌≤◌, length, drop, false}
use Rattle.reh_lines.proofs.EndedLaws.{has_lf}
use Rattle.reh_lines.proofs.inputs.whole_lines.Given as goal

-- no LF stands from here on
abbrev pub invariant-loop-end : goal.invariant-loop-end
invariant-loop-end l = record {
  within : l.end ≤ length l.text;
  none : has_lf (drop l.end l.text) ≡ false;
}

abbrev pub decreases-loop-end : goal.decreases-loop-end
decreases-loop-end l = l.end
