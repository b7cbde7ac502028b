-- An accepted event can be undone, which leaves all of the session but its undone events as it was.
use Rattle.std.proofs.Common.{ap}
use Rattle.reh_model.specs.Session.{Session, state_of}
use Rattle.reh_model.proofs.SessionLaws.{undo_accepted, moved_session-undo}
use Rattle.reh_session.proofs.laws.undo_restores.Goals as goal

pub returns-clause-can_undo : goal.returns-clause-can_undo
returns-clause-can_undo c = undo_accepted

pub returns-clause-events : goal.returns-clause-events
returns-clause-events c = moved_session-undo

pub returns-clause-state : goal.returns-clause-state
returns-clause-state c = λ m event. ap (λ (n : Session). state_of n) (moved_session-undo m event)
