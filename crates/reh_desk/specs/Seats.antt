-- What contracts see of a seat, and what a call adds to it.
use Rattle.std.specs.Prelude.{ℕ, ◌+◌, ◌-◌, if◌then◌else◌, List, [], ◌∷◌, ◌++◌}
use Rattle.reh_types.specs.declared.calls.Call.{Call}
use Rattle.reh_types.specs.declared.calls.Call.TheVariants.{Ask, Checkout, Spend, Discard}
use Rattle.reh_types.specs.declared.calls.OwnLine.{OwnLine}
use Rattle.reh_types.specs.declared.moves.Reply.{Reply}
use Rattle.reh_types.specs.declared.moves.Reply.TheVariants.{Done, Clock, Issued, Discarded, Refused}
use Rattle.reh_model.specs.Book.{is_written}

-- its number, its own calls that added a line to the tape, with their replies, and how many of its tickets are out
pub record SeatView : Type 0 where
  pub number : ℕ
  pub lines : List OwnLine
  pub out : ℕ

-- a seat before its first call
abbrev pub new_seat : ℕ → SeatView
new_seat number = record { number = number; lines = []; out = 0 }

abbrev pub own_line : Call → Reply → OwnLine
own_line call reply = record { call = call; reply = reply }

-- one ticket more is out, if it was issued
abbrev pub with_issued : Reply → ℕ → ℕ
with_issued Done out = out
with_issued (Clock clock) out = out
with_issued (Issued number) out = out + 1
with_issued Discarded out = out
with_issued (Refused refusal) out = out

-- how many tickets are out after a call that added a line
abbrev pub out_after : Call → Reply → ℕ → ℕ
out_after (Ask move) reply out = out
out_after (Checkout aim) reply out = with_issued reply out
out_after (Spend number content) reply out = out - 1
out_after (Discard number aim) reply out = out - 1

-- the seat after a call and its reply: with one line more, or the same
abbrev pub gained : SeatView → Call → Reply → SeatView
gained s call reply =
    if is_written reply
    then record { number = s.number; lines = s.lines ++ own_line call reply ∷ []; out = out_after call reply s.out }
    else s
