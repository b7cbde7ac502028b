-- Tickets that lines issue, and tickets that they end.
use Rattle.std.specs.Prelude.{ℕ, ◌+◌, List, [], ◌∷◌, length}
use Rattle.reh_types.specs.declared.calls.Call.{Call}
use Rattle.reh_types.specs.declared.calls.Call.TheVariants.{Ask, Checkout, Spend, Discard}
use Rattle.reh_types.specs.declared.calls.OwnLine.{OwnLine}
use Rattle.reh_types.specs.declared.moves.Reply.{Reply}
use Rattle.reh_model.specs.Book.{issued_by}

-- how many tickets a call with this reply issues: a checkout one, if it is not refused
abbrev pub issues_one : Call → Reply → ℕ
issues_one (Ask move) reply = 0
issues_one (Checkout aim) reply = length (issued_by reply)
issues_one (Spend number content) reply = 0
issues_one (Discard number aim) reply = 0

-- how many it ends: a spend and a discard one, if they add a line
abbrev pub ends_one : Call → ℕ
ends_one (Ask move) = 0
ends_one (Checkout aim) = 0
ends_one (Spend number content) = 1
ends_one (Discard number aim) = 1

abbrev pub issues : List OwnLine → ℕ
issues [] = 0
issues (line ∷ lines) = issues_one line.call line.reply + issues lines

abbrev pub ends : List OwnLine → ℕ
ends [] = 0
ends (line ∷ lines) = ends_one line.call + ends lines
