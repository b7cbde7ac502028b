use Rattle.std.proofs.Common.{◌≡◌, ℕ, ◌+◌, ◌-◌, ◌≤◌, ◌⊎◌, [], length, take, false, true}
use Rattle.std.specs.Io.KnownBytes.{prepend_known}
use Rattle.reh_types.specs.declared.limits.TheConstants.{MAX_SCRIPT_BYTES}
use Rattle.reh_lines.specs.Lines.{lines_of, ended}
use Rattle.reh_play.specs.Players.{setting_by}
use Rattle.reh_play.specs.Plays.{GoesOut}
use Rattle.reh_lines.specs.Readings.{reads_past}
use Rattle.reh_play.specs.Turns.{player, IsAt}
use Rattle.reh_lines.specs.declared.readings.Progress.{Progress}
use Rattle.reh_lines.specs.declared.readings.Progress.TheVariants.{Lines, End, Failed, TooLong}
use Rattle.reh_lines.proofs.Standing.{Stands}
use Rattle.reh_play.proofs.plays.answer_reads.Given as goal

-- the lines of the first bytes were answered, and before the last read their answers could be seen
abbrev pub invariant-loop-read : goal.invariant-loop-read
invariant-loop-read g l = record {
  may : g.C.Counter.may l.counter l.seat;
  at : IsAt (setting_by g.C.Counter.goes g.C.Counter.scene g.P.Printer.prints l.fn.tools.names.now)
      (lines_of (take l.done l.script.items)) [] l.number
      (player l.fn.counter l.fn.seat l.fn.hand) (player l.counter l.seat l.hand)
      (g.W.TextOut.contents l.fn.writer) (g.W.TextOut.contents l.writer);
  whole : ended (take l.done l.script.items) ≡ take l.done l.script.items;
  stands : Stands l.read l.done l.script.items (prepend_known l.fn.script.items (g.R.TextIn.remaining l.fn.reader))
      (g.R.TextIn.remaining l.reader) (g.R.TextIn.has_failed l.reader);
  out : (l.reader ≡ l.fn.reader) ⊎ GoesOut (setting_by g.C.Counter.goes g.C.Counter.scene g.P.Printer.prints l.fn.tools.names.now)
      (prepend_known l.fn.script.items (g.R.TextIn.remaining l.fn.reader)) (g.R.TextIn.before l.reader)
      (player l.fn.counter l.fn.seat l.fn.hand) (g.W.TextOut.contents l.fn.writer) (g.W.TextOut.seen l.writer);
  few : length l.script.items ≤ MAX_SCRIPT_BYTES;
  within : l.done ≤ length l.script.items;
  count : l.number ≤ l.done;
  fine : g.W.TextOut.has_failed l.writer ≡ false;
  end : l.read ≡ End → g.R.TextIn.at_end l.reader ≡ true;
  calls : g.R.TextIn.calls l.reader ≤ g.R.TextIn.calls l.fn.reader + length l.script.items + reads_past l.read;
}

-- how far the complete lines may still reach
abbrev ahead : Progress → ℕ
ahead (Lines end) = MAX_SCRIPT_BYTES + 1 - end
ahead End = 0
ahead Failed = 0
ahead TooLong = 0

abbrev pub decreases-loop-read : goal.decreases-loop-read
decreases-loop-read g l = ahead l.read
