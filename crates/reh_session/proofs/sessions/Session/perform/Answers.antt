-- A look shows the clock and changes nothing, so that the swaps that survive keep their promises.
use Rattle.reh_session.proofs.Keeps.{look_answers, kept_safe}
use Rattle.reh_session.proofs.sessions.Session.perform.Goals as goal

pub returns-in-Look-clause-answers : goal.returns-in-Look-clause-answers
returns-in-Look-clause-answers c =
    rw c.in-Look.is (look_answers c.self.invariant _ c.self.view_is _ c.clock.ensures.clock)

pub returns-in-Look-clause-lasting : goal.returns-in-Look-clause-lasting
returns-in-Look-clause-lasting c = kept_safe c.self.invariant _ c.self.view_is
