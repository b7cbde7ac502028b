use Rattle.std.proofs.Common.{◌≡◌, ◌↔◌, length}
use Rattle.reh_desk.specs.Desks.{own_lines}
use Rattle.reh_desk.proofs.settling.agrees.Given as goal

abbrev pub invariant-loop-line : goal.invariant-loop-line
invariant-loop-line l = (own_lines l.number l.rest ≡ l.left) ↔ (own_lines l.number l.tape ≡ l.lines)

abbrev pub decreases-loop-line : goal.decreases-loop-line
decreases-loop-line l = length l.rest
