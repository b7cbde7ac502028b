-- The first record that makes its event can be exchanged, which is a redo, and the swaps that survive keep their
-- promises.
use Rattle.std.proofs.Common.{arith, refl}
use Rattle.reh_session.proofs.Keeps.{redo_fits, redo_keeps, redo_answers, kept_safe}
use Rattle.reh_session.proofs.sessions.Session.redo.Goals as goal

pub exchange-requires : goal.exchange-requires
exchange-requires c = redo_fits c.self.invariant (omega arith) c.index_mut.result.now c.index_mut.ensures.value

pub invariant_of-self : goal.invariant_of-self
invariant_of-self c =
    redo_keeps c.self.invariant (omega arith) c.index_mut.result.now c.index_mut.ensures.value _ _
    c.exchange.ensures.state c.exchange.ensures.inverse

pub returns-then-self-len-clause-lasting : goal.returns-then-self-len-clause-lasting
returns-then-self-len-clause-lasting c = kept_safe c.self.invariant _ c.self.view_is

pub returns-clause-answers : goal.returns-clause-answers
returns-clause-answers c =
    rw (← c.self.view_is)
    (redo_answers c.self.invariant (omega arith) c.index_mut.result.now c.index_mut.ensures.value c.exchange.new.changes
    c.exchange.new.self c.exchange.ensures.state c.exchange.ensures.inverse)

pub returns-clause-lasting : goal.returns-clause-lasting
returns-clause-lasting c = kept_safe (invariant_of-self c) _ refl
