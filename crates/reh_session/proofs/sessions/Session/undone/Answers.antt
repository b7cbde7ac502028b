-- The events after the cursor can all be redone after the surviving ones.
use Rattle.reh_session.proofs.Keeps.{all_redoable}
use Rattle.reh_session.proofs.sessions.Session.undone.Goals as goal

pub returns-clause-redoable : goal.returns-clause-redoable
returns-clause-redoable c = rw (← c.self.view_is) (all_redoable c.self.invariant)
