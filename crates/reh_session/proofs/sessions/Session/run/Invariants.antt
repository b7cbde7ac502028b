-- The moves so far have these replies, and there is room for all.
use Rattle.std.proofs.Common.{◌≡◌, ◌≤◌, take, length, vec_capacity, vec_len}
use Rattle.reh_model.specs.Session.{Run}
use Rattle.reh_session.proofs.sessions.Session.run.Given as goal

abbrev pub invariant-loop-step : goal.invariant-loop-step
invariant-loop-step l = record {
  told : Run l.fn.self (take l.step-index l.moves) l.replies.items l.self;
  count : vec_len l.replies ≡ l.step-index;
  room : length l.moves ≤ vec_capacity l.replies;
}
