-- A book: a session for several seats, with tickets for scans, and a tape of calls and replies.
use Rattle.std.specs.Prelude.{◌≡◌, ◌≢◌, ◌⊎◌, ℕ, ◌+◌, Bool, true, false, ◌&&◌, ◌==◌, nat_lt, IsTrue, if◌then◌else◌}
use Rattle.std.specs.Prelude.{List, [], ◌∷◌, ◌++◌, length, Option, None, Some, is_none, position, remove}
use Rattle.std.specs.List.{flat_map}
use Rattle.std.specs.Option.{option_map_or}
use Rattle.reh_types.specs.declared.limits.TheConstants.{MAX_LINES}
use Rattle.reh_types.specs.declared.calls.Call.{Call}
use Rattle.reh_types.specs.declared.calls.Call.TheVariants.{Ask, Checkout, Spend, Discard}
use Rattle.reh_types.specs.declared.calls.Line.{Line}
use Rattle.reh_types.specs.declared.calls.TicketOut.{TicketOut}
use Rattle.reh_types.specs.declared.moves.Move.TheVariants.{Post}
use Rattle.reh_types.specs.declared.moves.Reply.{Reply}
use Rattle.reh_types.specs.declared.moves.Reply.TheVariants.{Done, Clock, Issued, Discarded, Refused}
use Rattle.reh_types.specs.declared.names.Aim.{Aim}
use Rattle.reh_types.specs.declared.refusals.Refusal.{Refusal}
use Rattle.reh_types.specs.declared.refusals.Refusal.TheVariants.{NotOut, TapeFull, NoMemory}
use Rattle.reh_model.specs.Checks.{first_reason, reason_if}
use Rattle.reh_model.specs.Scan.{aim_refusal}
use Rattle.reh_model.specs.Session.{Session, state_of, reply_to, session_after}

-- Tickets

-- a ticket of a seat, by its number and its aim
abbrev pub ticket : ℕ → ℕ → Aim → TicketOut
ticket seat number aim = record { seat = seat; number = number; aim = aim }

abbrev pub same_aim : Aim → Aim → Bool
same_aim a b = (a.worker == b.worker) && (a.ledger == b.ledger) && (a.fragment == b.fragment) && (a.index == b.index)

abbrev pub same_ticket : TicketOut → TicketOut → Bool
same_ticket t u = (t.seat == u.seat) && (t.number == u.number) && same_aim t.aim u.aim

-- where a ticket stands among those that are out, if it is out
abbrev pub ticket_place : TicketOut → List TicketOut → Option ℕ
ticket_place t out = position (λ u. same_ticket u t) out

-- the tickets that are out without this one
abbrev pub without : TicketOut → List TicketOut → List TicketOut
without t out = option_map_or (remove out) (ticket_place t out) out

-- Books

-- a session, how many lines the tape has, the last ticket's number, and the tickets that are out, in the order of
-- their numbers
pub record Book : Type 0 where
  pub session : Session
  pub lines : ℕ
  pub last_ticket : ℕ
  pub out : List TicketOut

-- a book on a session, before its first call
abbrev pub new_book : Session → Book
new_book m = record { session = m; lines = 0; last_ticket = 0; out = [] }

-- Replies

-- fewer lines are left than are wanted: each ticket out has one reserved
abbrev pub tape_full : Book → ℕ → Option Refusal
tape_full b wanted = reason_if (nat_lt MAX_LINES (b.lines + length b.out + wanted)) TapeFull

-- the ticket is not out
abbrev pub not_out : Book → TicketOut → Option Refusal
not_out b t = reason_if (is_none (ticket_place t b.out)) NotOut

-- the reply, unless there is a refusal
abbrev pub or_refused : Option Refusal → Reply → Reply
or_refused None reply = reply
or_refused (Some refusal) reply = Refused refusal

-- the reply to a call of a seat
abbrev pub answer_to : Book → ℕ → Call → Reply
answer_to b seat (Ask move) = or_refused (tape_full b 1) (reply_to b.session move)
answer_to b seat (Checkout aim) =
    or_refused (first_reason (tape_full b 2 ∷ aim_refusal (state_of b.session) aim ∷ [])) (Issued (b.last_ticket + 1))
answer_to b seat (Spend number content) =
    or_refused (not_out b (ticket seat number content.aim)) (reply_to b.session (Post content))
answer_to b seat (Discard number aim) = or_refused (not_out b (ticket seat number aim)) Discarded

-- What a call leaves

-- whether a call with this reply adds a line to the tape: not where the ticket is not out, the tape is full, or there
-- is no memory
abbrev pub is_written : Reply → Bool
is_written Done = true
is_written (Clock clock) = true
is_written (Issued number) = true
is_written Discarded = true
is_written (Refused NotOut) = false
is_written (Refused TapeFull) = false
is_written (Refused NoMemory) = false
is_written (Refused refusal) = true

-- with the ticket, if it was issued
abbrev pub with_ticket : Book → ℕ → Aim → Reply → Book
with_ticket b seat aim (Issued number) = record b { last_ticket = number; out = b.out ++ ticket seat number aim ∷ [] }
with_ticket b seat aim reply = b

-- what a call that adds a line changes besides: a move or a post the session, a checkout, a spend and a discard the
-- tickets that are out
abbrev pub changed : Book → ℕ → Call → Reply → Book
changed b seat (Ask move) reply = record b { session = session_after b.session move reply }
changed b seat (Checkout aim) reply = with_ticket b seat aim reply
changed b seat (Spend number content) reply = record b {
  session = session_after b.session (Post content) reply;
  out = without (ticket seat number content.aim) b.out;
}
changed b seat (Discard number aim) reply = record b { out = without (ticket seat number aim) b.out }

-- the book after a call and its reply
abbrev pub book_after : Book → ℕ → Call → Reply → Book
book_after b seat call reply =
    if is_written reply then record (changed b seat call reply) { lines = b.lines + 1 } else b

-- Answers

-- where out of memory may stand in place of the book's answer: not in place of a full tape; for a spend only in
-- place of `Done`; for a discard never
abbrev pub MayWantMemory : Call → Reply → Type 0
MayWantMemory (Ask move) answer = answer ≢ Refused TapeFull
MayWantMemory (Checkout aim) answer = answer ≢ Refused TapeFull
MayWantMemory (Spend number content) answer = answer ≡ Done
MayWantMemory (Discard number aim) answer = ⊥

-- From b a call of a seat has this reply, and leaves c: the book's answer, or out of memory where it may stand,
-- which changes nothing.
abbrev pub Answers : Book → ℕ → Call → Reply → Book → Type 0
Answers b seat call reply c =
    ((reply ≡ answer_to b seat call) ⊎ ((reply ≡ Refused NoMemory) × MayWantMemory call (answer_to b seat call)))
    × (c ≡ book_after b seat call reply)

-- Tapes

-- Along a tape from b to c, each reply is the book's, and one that adds a line.
abbrev pub Legal : Book → List Line → Book → Type 0
Legal b [] c = c ≡ b
Legal b (line ∷ lines) c =
    (line.reply ≡ answer_to b line.seat line.call) × IsTrue (is_written line.reply)
    × Legal (book_after b line.seat line.call line.reply) lines c

-- the number of the ticket that a reply issues, if it issues one
abbrev pub issued_by : Reply → List ℕ
issued_by (Issued number) = number ∷ []
issued_by reply = []

-- the numbers of the tickets that are issued on a tape, in its order
abbrev pub issued_on : List Line → List ℕ
issued_on tape = flat_map (λ line. issued_by line.reply) tape

-- the line on which a ticket is issued
abbrev pub issue_of : TicketOut → Line
issue_of t = record { seat = t.seat; call = Checkout t.aim; reply = Issued t.number }
