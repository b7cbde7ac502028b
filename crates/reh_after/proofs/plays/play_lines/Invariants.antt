-- The lines so far were accepted.
use Rattle.std.proofs.Common.{◌+◌, ◌≤◌, length}
use Rattle.reh_lines.specs.Lines.{lines_of}
use Rattle.reh_after.specs.Faults.{AreAccepted}
use Rattle.reh_after.proofs.plays.play_lines.Given as goal

abbrev pub invariant-loop-rest : goal.invariant-loop-rest
invariant-loop-rest l =
    AreAccepted l.names l.fn.session (lines_of l.script) (lines_of l.rest) l.number l.session
    × (l.number + length l.rest ≤ length l.script)

abbrev pub decreases-loop-rest : goal.decreases-loop-rest
decreases-loop-rest l = length l.rest
