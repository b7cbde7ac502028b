-- One new seat more.
use Rattle.std.proofs.Common.{◌≡◌, ℕ, suc, ◌+◌, List, [], ◌∷◌, ◌++◌, length, arith, refl, ap, ◌∙◌}
use Rattle.reh_desk.specs.Seats.{SeatView, new_seat}
use Rattle.reh_desk.specs.Desks.{AreNewFrom, AreNew}

new_push : (k n : ℕ) (seats : List SeatView) → AreNewFrom k seats → n ≡ k + length seats
    → AreNewFrom k (seats ++ new_seat n ∷ [])
new_push k n [] h is = let same : n ≡ k = omega (arith, is) in (rw same refl, tt)
new_push k n (s ∷ seats) h is = (h.0, new_push (k + 1) n seats h.1 (omega (arith, is)))

one_more : (seats : List SeatView) (s : SeatView) → length (seats ++ s ∷ []) ≡ suc (length seats)
one_more [] s = refl
one_more (first ∷ seats) s = ap suc (one_more seats s)

pub new_more : (n : ℕ) (seats : List SeatView) → AreNew n seats → AreNew (n + 1) (seats ++ new_seat n ∷ [])
new_more n seats h = record {
  count = one_more seats (new_seat n) ∙ (omega (arith, h.count));
  each = new_push 0 n seats h.each (omega (arith, h.count));
}
