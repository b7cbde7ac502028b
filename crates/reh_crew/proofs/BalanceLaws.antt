-- Along a legal tape, what a seat was issued is what it ended and what it has out.
use Rattle.std.proofs.Common.{◌≡◌, ◌∙◌, ◌+◌, ◌++◌, ◌<◌, ◌∷◌, [], ℕ, zero, suc, List, Bool, true, false, Option, None, Some}
use Rattle.std.proofs.Common.{ap, arith, get_or, length, refl, remove, sym}
use Rattle.std.specs.Prelude.{◌==◌, if◌then◌else◌, is_none}
use Rattle.std.specs.Option.{option_map_or}
use Rattle.std.proofs.lemmas.Bool.{false≢true}
use Rattle.std.proofs.lemmas.Bool.Decides.{nat_tests}
use Rattle.std.proofs.lemmas.List.Quantifiers.{position-Some}
use Rattle.reh_types.specs.declared.calls.Call.{Call}
use Rattle.reh_types.specs.declared.calls.Call.TheVariants.{Ask, Checkout, Spend, Discard}
use Rattle.reh_types.specs.declared.calls.Line.{Line}
use Rattle.reh_types.specs.declared.calls.OwnLine.{OwnLine}
use Rattle.reh_types.specs.declared.calls.TicketOut.{TicketOut}
use Rattle.reh_types.specs.declared.moves.Move.TheVariants.{Post}
use Rattle.reh_types.specs.declared.moves.Reply.{Reply}
use Rattle.reh_types.specs.declared.moves.Reply.TheVariants.{Done, Clock, Issued, Discarded, Refused}
use Rattle.reh_types.specs.declared.names.Aim.{Aim}
use Rattle.reh_types.specs.declared.refusals.Refusal.TheVariants.{NotOut}
use Rattle.reh_model.specs.Checks.{reason_if}
use Rattle.reh_model.specs.Session.{Session, reply_to}
use Rattle.reh_model.specs.Book.{Book, ticket, same_ticket, ticket_place, new_book, or_refused, answer_to}
use Rattle.reh_model.specs.Book.{is_written, with_ticket, changed, book_after, Legal}
use Rattle.reh_desk.specs.Seats.{own_line}
use Rattle.reh_desk.specs.Desks.{own_lines, IsHistory}
use Rattle.reh_crew.specs.Balance.{issues_one, ends_one, issues, ends}

-- a number, or 0
abbrev if_own : Bool → ℕ → ℕ
if_own true n = n
if_own false n = 0

-- how many tickets of a seat are out
abbrev pub out_of : ℕ → List TicketOut → ℕ
out_of k [] = 0
out_of k (t ∷ ts) = if_own (t.seat == k) 1 + out_of k ts

out_of-remove : (k : ℕ) (ts : List TicketOut) (i : ℕ) (d : TicketOut) → i < length ts
    → if_own ((get_or ts i d).seat == k) 1 + out_of k (remove ts i) ≡ out_of k ts
out_of-remove k [] i d within = absurd (omega arith)
out_of-remove k (t ∷ ts) zero d within = refl
out_of-remove k (t ∷ ts) (suc i) d within =
    let rest = out_of-remove k ts i d (omega arith) in omega (arith, rest)

out_of-push : (k : ℕ) (ts : List TicketOut) (t : TicketOut) → out_of k (ts ++ t ∷ []) ≡ out_of k ts + if_own (t.seat == k) 1
out_of-push k [] t = omega arith
out_of-push k (x ∷ ts) t = let rest = out_of-push k ts t in omega (arith, rest)

if_own-none : (b : Bool) → if_own b 0 ≡ 0
if_own-none true = refl
if_own-none false = refl

same_seat : (t u : TicketOut) → same_ticket t u ≡ true → t.seat ≡ u.seat
same_seat t u same = grind (arith, nat_tests, same)

-- the end of a ticket that is out
ended : (k : ℕ) (t : TicketOut) (out : List TicketOut) (place : Option ℕ) (good reply : Reply) → ticket_place t out ≡ place
    → reply ≡ or_refused (reason_if (is_none place) NotOut) good → is_written reply ≡ true
    → out_of k out + if_own (t.seat == k) 0 ≡ out_of k (option_map_or (remove out) place out) + if_own (t.seat == k) 1
ended k t out None good reply at is written = absurd (false≢true (sym (ap is_written is) ∙ written))
ended k t out (Some i) good reply at is written =
    let found = position-Some (λ u. same_ticket u t) out i t at in
    let seat : (get_or out i t).seat ≡ t.seat = same_seat (get_or out i t) t found.1 in
    let one : if_own ((get_or out i t).seat == k) 1 ≡ if_own (t.seat == k) 1 = ap (λ (n : ℕ). if_own (n == k) 1) seat in
    let sum = out_of-remove k out i t found.0 in
    omega (arith, one, sum, if_own-none (t.seat == k))

-- a checkout
issued : (k : ℕ) (b : Book) (seat : ℕ) (aim : Aim) (reply : Reply)
    → out_of k b.out + if_own (seat == k) (issues_one (Checkout aim) reply)
    ≡ out_of k (with_ticket b seat aim reply).out + if_own (seat == k) 0
issued k b seat aim Done = refl
issued k b seat aim (Clock clock) = refl
issued k b seat aim (Issued number) =
    omega (arith, out_of-push k b.out (ticket seat number aim), if_own-none (seat == k))
issued k b seat aim Discarded = refl
issued k b seat aim (Refused refusal) = refl

-- what is out after a call that added a line
out_after : (w : Bool) (b c : Book) → w ≡ true → (if w then record c { lines = b.lines + 1 } else b).out ≡ c.out
out_after true b c written = refl
out_after false b c written = absurd (false≢true written)

-- one line
one_line : (k : ℕ) (b : Book) (seat : ℕ) (call : Call) (reply : Reply) → reply ≡ answer_to b seat call
    → is_written reply ≡ true
    → out_of k b.out + if_own (seat == k) (issues_one call reply)
    ≡ out_of k (changed b seat call reply).out + if_own (seat == k) (ends_one call)
one_line k b seat (Ask move) reply is written = refl
one_line k b seat (Checkout aim) reply is written = issued k b seat aim reply
one_line k b seat (Spend number content) reply is written =
    let t : TicketOut = ticket seat number content.aim in
    ended k t b.out (ticket_place t b.out) (reply_to b.session (Post content)) reply refl is written
one_line k b seat (Discard number aim) reply is written =
    let t : TicketOut = ticket seat number aim in
    ended k t b.out (ticket_place t b.out) Discarded reply refl is written

issues-line : (w : Bool) (line : OwnLine) (lines : List OwnLine)
    → issues (if w then line ∷ lines else lines) ≡ if_own w (issues_one line.call line.reply) + issues lines
issues-line true line lines = refl
issues-line false line lines = omega arith

ends-line : (w : Bool) (line : OwnLine) (lines : List OwnLine)
    → ends (if w then line ∷ lines else lines) ≡ if_own w (ends_one line.call) + ends lines
ends-line true line lines = refl
ends-line false line lines = omega arith

balance : (k : ℕ) (b : Book) (tape : List Line) (c : Book) → Legal b tape c
    → out_of k b.out + issues (own_lines k tape) ≡ out_of k c.out + ends (own_lines k tape)
balance k b [] c legal = ap (λ (d : Book). out_of k d.out + 0) (sym legal)
balance k b (l ∷ tape) c legal =
    let one = one_line k b l.seat l.call l.reply legal.0 legal.1 in
    let after : out_of k (book_after b l.seat l.call l.reply).out ≡ out_of k (changed b l.seat l.call l.reply).out =
    ap (out_of k) (out_after (is_written l.reply) b (changed b l.seat l.call l.reply) legal.1) in
    let rest = balance k (book_after b l.seat l.call l.reply) tape c legal.2 in
    omega (
      arith,
      one,
      after,
      rest,
      issues-line (l.seat == k) (own_line l.call l.reply) (own_lines k tape),
      ends-line (l.seat == k) (own_line l.call l.reply) (own_lines k tape),
    )

-- where no ticket is out at the end, each one that a seat was issued was ended
pub issues-history : (m : Session) (tape : List Line) (n : Session) → IsHistory m tape n → (k : ℕ)
    → issues (own_lines k tape) ≡ ends (own_lines k tape)
issues-history m tape n history k =
    let all = balance k (new_book m) tape history.end history.legal in
    let none : out_of k history.end.out ≡ 0 = ap (out_of k) history.none_out in
    omega (arith, all, none)
