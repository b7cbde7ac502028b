-- By what the desk answers.
use Rattle.reh_drill.proofs.Drilled.{closes_as}
use Rattle.reh_drill.proofs.drills.close_desk.Goals as goal

pub returns-clause-closes : goal.returns-clause-closes
returns-clause-closes g c =
    closes_as c.args.desk c.args.seats.items c.close.result c.end_closed.result _ _ c.close.ensures.closed c.close.ensures.seats
    c.close.ensures.book c.end_closed.ensures.ends
