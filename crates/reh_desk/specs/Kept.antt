-- What a book keeps: the session that it opened on, its tape, and where the tape has led.
use Rattle.std.specs.Prelude.{◌≡◌, ℕ, ◌+◌, ◌≤◌, if◌then◌else◌, List, [], ◌∷◌, ◌++◌, length}
use Rattle.reh_types.specs.declared.limits.TheConstants.{MAX_LINES}
use Rattle.reh_types.specs.declared.calls.Call.{Call}
use Rattle.reh_types.specs.declared.calls.Line.{Line}
use Rattle.reh_types.specs.declared.calls.TicketOut.{TicketOut}
use Rattle.reh_types.specs.declared.moves.Reply.{Reply}
use Rattle.reh_model.specs.Session.{Session}
use Rattle.reh_model.specs.Book.{Book, new_book, is_written, Answers, Legal}

pub record Kept : Type 0 where
  pub opening : Session
  pub tape : List Line
  pub book : Book

-- the same of a book's own parts
abbrev pub kept_of : Session → Session → List Line → ℕ → List TicketOut → Kept
kept_of opening session lines last_ticket out = record {
  opening = opening;
  tape = lines;
  book = record { session = session; lines = length lines; last_ticket = last_ticket; out = out };
}

-- a book on a session, before its first call
abbrev pub opened : Session → Kept
opened m = record { opening = m; tape = []; book = new_book m }

abbrev pub line : ℕ → Call → Reply → Line
line seat call reply = record { seat = seat; call = call; reply = reply }

-- the tape after a call and its reply: with one line more, or the same
abbrev pub tape_after : List Line → ℕ → Call → Reply → List Line
tape_after tape seat call reply = if is_written reply then tape ++ line seat call reply ∷ [] else tape

-- From k a call of a seat has this reply, and leaves n: as the book answers, and the tape gains the line, if there is
-- one.
pub record Called (k : Kept) (seat : ℕ) (call : Call) (reply : Reply) (n : Kept) : Type 0 where
  pub answers : Answers k.book seat call reply n.book
  pub tape : n.tape ≡ tape_after k.tape seat call reply
  pub opening : n.opening ≡ k.opening

-- The book is where its tape leads from its opening session, no tape is too long, and there is room for the line of
-- each ticket out.
pub record IsKept (k : Kept) (room : ℕ) : Type 0 where
  pub legal : Legal (new_book k.opening) k.tape k.book
  pub lines : k.book.lines ≡ length k.tape
  pub few : k.book.lines + length k.book.out ≤ MAX_LINES
  pub numbered : k.book.last_ticket ≤ k.book.lines
  pub reserved : k.book.lines + length k.book.out ≤ room
