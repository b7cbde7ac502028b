use Rattle.reh_desk.specs.Desks.{AreNew}
use Rattle.reh_desk.proofs.desks.new_seats.Given as goal

abbrev pub invariant-loop-number : goal.invariant-loop-number
invariant-loop-number l = AreNew l.number l.seats.items
