use Rattle.std.proofs.Common.{◌↔◌, length}
use Rattle.reh_desk.specs.Desks.{AreSeated}
use Rattle.reh_desk.proofs.settling.are_seated.Given as goal

abbrev pub invariant-loop-line : goal.invariant-loop-line
invariant-loop-line l = AreSeated l.count l.rest ↔ AreSeated l.count l.tape

abbrev pub decreases-loop-line : goal.decreases-loop-line
decreases-loop-line l = length l.rest
