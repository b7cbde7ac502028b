use Rattle.std.proofs.Common.{length}
use Rattle.reh_desk.specs.Seats.{SeatView}
use Rattle.reh_play.specs.Players.{GivesBack}
use Rattle.reh_play.proofs.players.give_hand_back.Given as goal

-- the seat may call, and what gives back the rest of the hand gives back the hand
abbrev pub invariant-loop-finding : goal.invariant-loop-finding
invariant-loop-finding g l = record {
  may : g.C.Counter.may l.counter l.seat;
  rest : (last : g.row.C.Denot) (end : SeatView) → GivesBack g.C.Counter.goes l.counter l.seat l.hand last end
      → GivesBack g.C.Counter.goes l.fn.counter l.fn.seat l.fn.hand last end;
}

abbrev pub decreases-loop-finding : goal.decreases-loop-finding
decreases-loop-finding g l = length l.hand
