-- A desk: which seats are its own, when a tape settles with their lists, and what a closed desk hands out.
use Rattle.std.specs.Prelude.{◌≡◌, ◌≢◌, ◌⊎◌, ℕ, ◌+◌, ◌<◌, ◌==◌, if◌then◌else◌, List, [], ◌∷◌, length, Result, Ok, Err}
use Rattle.reh_types.specs.declared.calls.Line.{Line}
use Rattle.reh_types.specs.declared.calls.OwnLine.{OwnLine}
use Rattle.reh_model.specs.Session.{Session}
use Rattle.reh_model.specs.Book.{Book, new_book, Legal}
use Rattle.reh_desk.specs.declared.settling.Unsettled.{Unsettled}
use Rattle.reh_desk.specs.declared.settling.Unsettled.TheVariants.{StillOut, Mismatch}
use Rattle.reh_desk.specs.Kept.{Kept}
use Rattle.reh_desk.specs.Seats.{SeatView, own_line, new_seat}

-- the session that a desk was opened on, and how many seats it has
pub record DeskView : Type 0 where
  pub opening : Session
  pub seats : ℕ

-- Seats

-- new seats, numbered from k on
abbrev pub AreNewFrom : ℕ → List SeatView → Type 0
AreNewFrom k [] = Unit {0}
AreNewFrom k (s ∷ seats) = (s ≡ new_seat k) × AreNewFrom (k + 1) seats

-- so many new seats, numbered from 0 on
pub record AreNew (n : ℕ) (seats : List SeatView) : Type 0 where
  pub count : length seats ≡ n
  pub each : AreNewFrom 0 seats

-- no seat has this number
abbrev pub IsAbsent : ℕ → List SeatView → Type 0
IsAbsent k [] = Unit {0}
IsAbsent k (s ∷ seats) = (s.number ≢ k) × IsAbsent k seats

-- the numbers are below n, each at most once
abbrev pub AreBelow : ℕ → List SeatView → Type 0
AreBelow n [] = Unit {0}
AreBelow n (s ∷ seats) = (s.number < n) × IsAbsent s.number seats × AreBelow n seats

-- the seats of a desk that has n, each once
abbrev pub AreSeats : ℕ → List SeatView → Type 0
AreSeats n seats = (length seats ≡ n) × AreBelow n seats

-- Settling

-- the lines of the seat of this number, in order
abbrev pub own_lines : ℕ → List Line → List OwnLine
own_lines k [] = []
own_lines k (line ∷ tape) =
    if line.seat == k then own_line line.call line.reply ∷ own_lines k tape else own_lines k tape

-- every line is of a seat below n
abbrev pub AreSeated : ℕ → List Line → Type 0
AreSeated n [] = Unit {0}
AreSeated n (line ∷ tape) = (line.seat < n) × AreSeated n tape

-- the tape's lines of a seat are its list, in the same order
abbrev pub Agrees : List Line → SeatView → Type 0
Agrees tape s = own_lines s.number tape ≡ s.lines

abbrev pub AllAgree : List Line → List SeatView → Type 0
AllAgree tape [] = Unit {0}
AllAgree tape (s ∷ seats) = Agrees tape s × AllAgree tape seats

-- each seat with a lower number agrees
abbrev pub AgreeBelow : List Line → ℕ → List SeatView → Type 0
AgreeBelow tape k [] = Unit {0}
AgreeBelow tape k (s ∷ seats) = (s.number < k → Agrees tape s) × AgreeBelow tape k seats

-- the seat of that number does not agree
abbrev pub Differs : List Line → ℕ → List SeatView → Type 0
Differs tape k [] = ⊥
Differs tape k (s ∷ seats) = ((s.number ≡ k) × (Agrees tape s → ⊥)) ⊎ Differs tape k seats

-- the book opened on this session, and each line of its tape is of one of n seats
abbrev pub IsOf : Kept → Session → ℕ → Type 0
IsOf k opening n = (k.opening ≡ opening) × AreSeated n k.tape

-- What settling a book with an opening session and seats answers: how many tickets are still out; or seat 0, where the
-- book is of another session or of further seats; or the first seat whose list is not the tape's; or that all agrees.
abbrev pub Settles : Kept → Session → List SeatView → Result (Unit {0}) Unsettled → Type 0
Settles k opening seats (Ok done) = (k.book.out ≡ []) × IsOf k opening (length seats) × AllAgree k.tape seats
Settles k opening seats (Err (StillOut n)) = (n ≡ length k.book.out) × (0 < n)
Settles k opening seats (Err (Mismatch n)) =
    (k.book.out ≡ [])
    × (((n ≡ 0) × (IsOf k opening (length seats) → ⊥))
    ⊎ (IsOf k opening (length seats) × AgreeBelow k.tape n seats × Differs k.tape n seats))

-- Closed desks

-- A tape that is legal from this session, with no line and no ticket, to that one, with no ticket out.
pub record IsHistory (opening : Session) (tape : List Line) (session : Session) : Type 0 where
  pub end : Book
  pub legal : Legal (new_book opening) tape end
  pub reached : end.session ≡ session
  pub none_out : end.out ≡ []

-- A desk that closed with these seats handed out this session and this tape.
pub record IsClosed (desk : DeskView) (seats : List SeatView) (session : Session) (tape : List Line) : Type 0 where
  pub history : IsHistory desk.opening tape session
  pub own : AreSeats desk.seats seats
  pub seated : AreSeated desk.seats tape
  pub agree : AllAgree tape seats
