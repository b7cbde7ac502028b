-- Why a desk does not close.
use Rattle.std.specs.Prelude.{◌≡◌, List, Err}
use Rattle.reh_model.specs.Book.{new_book, Legal}
use Rattle.reh_model.specs.Session.{Session}
use Rattle.reh_desk.specs.Desks.{Settles}
use Rattle.reh_desk.specs.Kept.{Kept}
use Rattle.reh_desk.specs.Seats.{SeatView}
use Rattle.reh_desk.specs.declared.settling.Unsettled.{Unsettled}
use Rattle.reh_desk.specs.declared.settling.Unsettled.TheVariants as unsettled
use Rattle.reh_desk.specs.declared.desks.CloseCause.{CloseCause}
use Rattle.reh_desk.specs.declared.desks.CloseCause.TheVariants.{StillOut, Mismatch}

-- the cause, where its book does not settle
abbrev pub cause_of : Unsettled → CloseCause
cause_of (unsettled.StillOut count) = StillOut count
cause_of (unsettled.Mismatch number) = Mismatch number

-- some book, which is where its tape leads, does not settle with this session and these seats, for this cause
pub record IsUnsettled (opening : Session) (seats : List SeatView) (cause : CloseCause) : Type 0 where
  pub book : Kept
  pub legal : Legal (new_book book.opening) book.tape book.book
  pub unsettled : Unsettled
  pub settles : Settles book opening seats (Err unsettled)
  pub told : cause ≡ cause_of unsettled
