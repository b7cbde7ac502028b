-- A desk whose book settles with its seats is closed.
use Rattle.std.proofs.Common.{◌≡◌, ℕ, List, Ok, refl, subst, arith}
use Rattle.std.specs.Prelude.{◌↔◌}
use Rattle.reh_types.specs.declared.calls.Line.{Line}
use Rattle.reh_model.specs.Session.{Session}
use Rattle.reh_model.specs.Book.{new_book, Legal}
use Rattle.reh_desk.specs.declared.settling.Unsettled.{Unsettled}
use Rattle.reh_desk.specs.declared.settling.Unsettled.TheVariants.{StillOut, Mismatch}
use Rattle.reh_desk.specs.declared.desks.CloseCause.TheVariants.{Seats}
use Rattle.reh_desk.specs.Closings.{cause_of}
use Rattle.reh_desk.specs.Desks.{DeskView, AreSeats, AreSeated, Settles, IsClosed}
use Rattle.reh_desk.specs.Kept.{Kept}
use Rattle.reh_desk.specs.Seats.{SeatView}

pub closed : (d : DeskView) (k : Kept) (seats : List SeatView) (session : Session) (tape : List Line)
    → AreSeats d.seats seats → Settles k d.opening seats (Ok tt) → session ≡ k.book.session → tape ≡ k.tape
    → Legal (new_book k.opening) k.tape k.book → IsClosed d seats session tape
closed d k seats session tape own settles session_is tape_is legal = rw (session_is, tape_is) (record {
  history = record {
    end = k.book;
    legal = subst (λ m. Legal (new_book m) k.tape k.book) settles.1.0 legal;
    reached = refl;
    none_out = settles.0;
  };
  own = own;
  seated = subst (λ n. AreSeated n k.tape) own.0 settles.1.1;
  agree = settles.2;
})

-- where a book does not settle, the seats are the desk's
pub not_for_seats : (n : ℕ) (seats : List SeatView) (u : Unsettled) → AreSeats n seats
    → (cause_of u ≡ Seats) ↔ (AreSeats n seats → ⊥)
not_for_seats n seats (StillOut count) own = (λ is. absurd (grind (arith, is)), λ none. absurd (none own))
not_for_seats n seats (Mismatch number) own = (λ is. absurd (grind (arith, is)), λ none. absurd (none own))
