-- The records lead from the state to where each event was made, and to where each one leads.
use Rattle.reh_session.proofs.Keeps.{trail_shown, ahead_shown, replay_back, replay_forth}
use Rattle.reh_session.proofs.sessions.Session.records.Goals as goal

pub returns-clause-trail : goal.returns-clause-trail
returns-clause-trail c = rw (← c.self.view_is, c.deref.ensures.value) (trail_shown c.self.invariant)

pub returns-clause-ahead : goal.returns-clause-ahead
returns-clause-ahead c = rw (← c.self.view_is, c.deref.ensures.value) (ahead_shown c.self.invariant)

pub returns-clause-back : goal.returns-clause-back
returns-clause-back c = rw (← c.self.view_is, c.deref.ensures.value) (replay_back c.self.invariant)

pub returns-clause-forth : goal.returns-clause-forth
returns-clause-forth c = rw (← c.self.view_is, c.deref.ensures.value) (replay_forth c.self.invariant)
