-- What contracts see of who makes a call: a seat, whose list gets the call's line too, or its bare number.
use Rattle.std.specs.Prelude.{ℕ, Bool, ◌&&◌, ◌==◌, if◌then◌else◌, ◌∷◌, [], ◌++◌}
use Rattle.reh_types.specs.declared.calls.Call.{Call}
use Rattle.reh_types.specs.declared.calls.OwnLine.{OwnLine}
use Rattle.reh_types.specs.declared.moves.Reply.{Reply}
use Rattle.reh_desk.specs.Seats.{SeatView, gained}

-- a seat with its list, and for how many lines it has room beside those that are there and those that are reserved
pub record Listing : Type 0 where
  pub seat : SeatView
  pub room : ℕ

-- the caller counts no ticket out
abbrev pub none_out : Bool → SeatView → Bool
none_out keeps s = keeps && (s.out == 0)

-- the caller with a line more in its list
abbrev pub with_line : Bool → SeatView → OwnLine → SeatView
with_line keeps s line = if keeps then record s { lines = s.lines ++ line ∷ [] } else s

-- the caller with so many tickets out
abbrev pub with_out : Bool → SeatView → ℕ → SeatView
with_out keeps s out = if keeps then record s { out = out } else s

-- the caller after a call and its reply
abbrev pub caller_after : Bool → SeatView → Call → Reply → SeatView
caller_after keeps s call reply = if keeps then gained s call reply else s
