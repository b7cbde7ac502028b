use Rattle.std.proofs.Common.{◌-◌, ◌≤◌, length, take, drop}
use Rattle.reh_lines.specs.Heads.{IsPicture}
use Rattle.reh_lines.specs.Readings.{IsQuiet}
use Rattle.reh_lines.proofs.heads.find_percent.Given as goal

-- the lines before are of the picture, and the line has not ended yet
abbrev pub invariant-loop-at : goal.invariant-loop-at
invariant-loop-at l = record {
  order : l.line ≤ l.at;
  from : l.fn.from ≤ l.at;
  within : l.at ≤ length l.input;
  picture : IsPicture (take l.line l.input);
  quiet : IsQuiet (take (l.at - l.line) (drop l.line l.input));
}

abbrev pub decreases-loop-at : goal.decreases-loop-at
decreases-loop-at l = length l.input - l.at
