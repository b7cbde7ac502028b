use Rattle.std.proofs.Common.{inl, inr, refl}
use Rattle.reh_play.proofs.Turns.{gives_more}
use Rattle.reh_play.proofs.players.give_back.Goals as goal

pub returns-in-Ok-clause-given : goal.returns-in-Ok-clause-given
returns-in-Ok-clause-given g c =
    rw c.in-Some.is
    (gives_more g.C.Counter.goes _ _ _ _ _ c.in-Some.ticket _ _ _ c.give_hand_back.ensures.given
    (inl refl) c.in-Ok.ensures.goes c.in-Ok.ensures.seat)

pub returns-in-Err-clause-given : goal.returns-in-Err-clause-given
returns-in-Err-clause-given g c =
    rw c.in-Some.is
    (gives_more g.C.Counter.goes _ _ _ _ _ c.in-Some.ticket _ _ _ c.give_hand_back.ensures.given
    (inr refl) c.in-Err.ensures.goes c.in-Err.ensures.seat)
