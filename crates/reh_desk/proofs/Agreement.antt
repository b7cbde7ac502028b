-- On seats that agree below a number.
use Rattle.std.proofs.Common.{ℕ, ◌≤◌, List, [], ◌∷◌, arith}
use Rattle.reh_types.specs.declared.calls.Line.{Line}
use Rattle.reh_desk.specs.Seats.{SeatView}
use Rattle.reh_desk.specs.Desks.{AllAgree, AgreeBelow}

pub below_all : (tape : List Line) (k : ℕ) (seats : List SeatView) → AllAgree tape seats → AgreeBelow tape k seats
below_all tape k [] h = tt
below_all tape k (s ∷ seats) h = (λ _. h.0, below_all tape k seats h.1)

pub below_less : (tape : List Line) (k n : ℕ) (seats : List SeatView) → AgreeBelow tape n seats → k ≤ n
    → AgreeBelow tape k seats
below_less tape k n [] h less = tt
below_less tape k n (s ∷ seats) h less = (λ low. h.0 (omega (arith, low, less)), below_less tape k n seats h.1 less)
