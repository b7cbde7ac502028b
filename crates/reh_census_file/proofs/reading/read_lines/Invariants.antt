use Rattle.std.proofs.Common.{◌≡◌, ◌≤◌, ◌+◌, length}
use Rattle.reh_census_file.specs.Whole.{body_at, parts_of}
use Rattle.reh_census_file.proofs.reading.read_lines.Given as goal

-- what is left goes on from what was read, and each line so far took a byte
abbrev pub invariant-loop-line : goal.invariant-loop-line
invariant-loop-line l = record {
  goes_on : body_at l.lines l.draft (parts_of l.left) ≡ body_at 3 l.fn.draft (parts_of l.text);
  few : l.lines + length l.left ≤ 3 + length l.text;
}

abbrev pub decreases-loop-line : goal.decreases-loop-line
decreases-loop-line l = length l.left
