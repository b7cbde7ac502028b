-- How a play of a script goes by a seat of a desk, of whose book nothing is known.
use Rattle.std.specs.Prelude.{ℕ, ◌⊎◌, false, List, Option, None, Result}
use Rattle.reh_model.specs.Cluster.{Cluster}
use Rattle.reh_desk.specs.Seats.{SeatView}
use Rattle.reh_lines.specs.Lines.{answered_lines}
use Rattle.reh_play.specs.Players.{Going, Player, Setting, setting, seated}
use Rattle.reh_play.specs.Plays.{stop_of, IsPlayed, LacksHand}
use Rattle.reh_play.specs.declared.faults.PlayFault.{PlayFault}

-- other seats call between any two calls, so any reply may come
abbrev pub anyhow : Going (Unit {0})
anyhow before seat call reply after = Unit {0}

-- and no state is shown
abbrev pub unseen : Unit {0} → Option Cluster
unseen counter = None

-- a desk, with the bookies of these names
abbrev pub at_desk : List (List ℕ) → Setting (Unit {0})
at_desk names = setting anyhow unseen names

-- a seat of a desk, with an empty hand
abbrev pub sitting : SeatView → Player (Unit {0})
sitting seat = seated tt seat

-- A play of a script in memory by a seat, of which the seat is seat_new and what is written new. Or there was no memory
-- for the hand: nothing was taken and nothing written.
abbrev pub PlaysAtDesk : List (List ℕ) → List ℕ → Result (Unit {0}) PlayFault → SeatView → SeatView → Option (List ℕ)
    → Option (List ℕ) → Type 0
PlaysAtDesk names script result seat_old seat_new old new =
    IsPlayed (at_desk names) (answered_lines false script) (stop_of false script) result
    (sitting seat_old) (sitting seat_new) old new
    ⊎ LacksHand result (sitting seat_old) (sitting seat_new) old new
