use Rattle.std.proofs.Common.{◌≡◌, ℕ, List, ◌++◌, length, false}
use Rattle.std.specs.Io.KnownBytes.{Appends}
use Rattle.reh_lines.specs.Streams.{Grows}
use Rattle.reh_lines.proofs.streams.write_all.Given as goal

-- what was sent and what is left are all, and no call has failed
abbrev pub invariant-loop-rest : goal.invariant-loop-rest
invariant-loop-rest g l = record {
  sent : (front : List ℕ) × (front ++ l.rest ≡ l.fn.bytes)
      × Appends (g.W.TextOut.contents l.fn.writer) (g.W.TextOut.contents l.writer) front;
  seen : Grows (g.W.TextOut.seen l.fn.writer) (g.W.TextOut.seen l.writer);
  fine : g.W.TextOut.has_failed l.writer ≡ false;
}

abbrev pub decreases-loop-rest : goal.decreases-loop-rest
decreases-loop-rest g l = length l.rest
