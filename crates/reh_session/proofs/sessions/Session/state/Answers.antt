-- The surviving events lead to the state, and in it each swap among them keeps its promise.
use Rattle.std.proofs.Common.{subst, take}
use Rattle.std.specs.Prelude.{All}
use Rattle.reh_model.specs.Session.{Session}
use Rattle.reh_model.specs.Swaps.{HoldsStripe}
use Rattle.reh_model.proofs.SwapLaws.{lasting}
use Rattle.reh_session.specs.Kept.{led_back}
use Rattle.reh_session.proofs.Keeps.{replay_done}
use Rattle.reh_session.proofs.sessions.Session.state.Goals as goal

pub returns-clause-replays : goal.returns-clause-replays
returns-clause-replays c = rw (← c.self.view_is) (replay_done c.self.invariant)

pub returns-clause-lasting : goal.returns-clause-lasting
returns-clause-lasting c =
    let s = c.self.inside in
    subst (λ (m : Session). All (HoldsStripe s.state) m.done) c.self.view_is
    (lasting (led_back s.state (take s.cursor s.records.items)) s.state (take s.cursor s.events.items)
    (replay_done c.self.invariant))
