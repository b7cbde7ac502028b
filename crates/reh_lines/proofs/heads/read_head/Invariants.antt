use Rattle.std.proofs.Common.{◌≡◌, ◌⊎◌, ◌+◌, ◌-◌, ◌≤◌, length, take, drop, vec_len, false}
use Rattle.std.specs.Io.KnownBytes.{Consumes}
use Rattle.reh_lines.specs.Heads.{IsPicture, IsUntoldUntil}
use Rattle.reh_lines.specs.Readings.{IsQuiet}
use Rattle.reh_lines.specs.declared.heads.TheConstants.{MAX_HEAD}
use Rattle.reh_lines.proofs.heads.read_head.Given as goal

-- no line is the line `%`, no call has failed, and each gave a byte
abbrev pub invariant-loop-block : goal.invariant-loop-block
invariant-loop-block g l = record {
  given : Consumes (g.R.TextIn.remaining l.fn.reader) (g.R.TextIn.remaining l.reader) l.input.items;
  fine : g.R.TextIn.has_failed l.reader ≡ false;
  picture : IsPicture (take l.line l.input.items);
  within : l.line ≤ length l.input.items;
  quiet : IsQuiet (drop l.line l.input.items);
  few : length l.input.items ≤ MAX_HEAD;
  until : (l.reader ≡ l.fn.reader)
      ⊎ IsUntoldUntil (g.R.TextIn.remaining l.fn.reader) (g.R.TextIn.before l.reader);
  calls : g.R.TextIn.calls l.reader ≤ g.R.TextIn.calls l.fn.reader + length l.input.items;
}

abbrev pub decreases-loop-block : goal.decreases-loop-block
decreases-loop-block g l = MAX_HEAD - vec_len l.input
