use Rattle.std.proofs.Common.{◌≡◌, ◌+◌, ◌-◌, ◌≤◌, false, vec_len}
use Rattle.std.specs.Io.KnownBytes.{Consumes}
use Rattle.reh_lines.proofs.readings.read_text.Given as goal

-- the bytes so far are what the reader gave, no call has failed, and each gave a byte
abbrev pub invariant-loop-block : goal.invariant-loop-block
invariant-loop-block g l = record {
  given : Consumes (g.R.TextIn.remaining l.fn.reader) (g.R.TextIn.remaining l.reader) l.bytes.items;
  fine : g.R.TextIn.has_failed l.reader ≡ false;
  calls : g.R.TextIn.calls l.reader ≤ g.R.TextIn.calls l.fn.reader + vec_len l.bytes;
  few : g.R.TextIn.calls l.reader ≤ g.R.TextIn.calls l.fn.reader + l.enough;
}

abbrev pub decreases-loop-block : goal.decreases-loop-block
decreases-loop-block g l = l.enough - vec_len l.bytes
