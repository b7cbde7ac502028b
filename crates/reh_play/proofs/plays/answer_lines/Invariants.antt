use Rattle.std.proofs.Common.{◌≡◌, ◌+◌, ◌≤◌, length, false}
use Rattle.reh_lines.specs.Lines.{lines_of}
use Rattle.reh_play.specs.Players.{setting_by}
use Rattle.reh_lines.specs.Streams.{Grows}
use Rattle.reh_play.specs.Turns.{player, GoesOn}
use Rattle.reh_play.proofs.plays.answer_lines.Given as goal

-- the first lines were answered, each had a byte at least, and no write has failed
abbrev pub invariant-loop-rest : goal.invariant-loop-rest
invariant-loop-rest g l = record {
  may : g.C.Counter.may l.counter l.seat;
  at : GoesOn (setting_by g.C.Counter.goes g.C.Counter.scene g.P.Printer.prints l.fn.tools.names.now) l.fn.before (lines_of l.fn.text)
      l.number (lines_of l.rest) (player l.fn.counter l.fn.seat l.fn.hand) (player l.counter l.seat l.hand)
      (g.W.TextOut.contents l.fn.writer) (g.W.TextOut.contents l.writer);
  few : l.number + length l.rest ≤ l.fn.before + length l.fn.text;
  seen : Grows (g.W.TextOut.seen l.fn.writer) (g.W.TextOut.seen l.writer);
  fine : g.W.TextOut.has_failed l.writer ≡ false;
}

abbrev pub decreases-loop-rest : goal.decreases-loop-rest
decreases-loop-rest g l = length l.rest
