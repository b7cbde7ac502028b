-- The tickets that are issued along a tape.
use Rattle.std.proofs.Common.{◌≡◌, ℕ, suc, ◌+◌, ◌-◌, ◌<◌, ◌≤◌, ◌⊎◌, true, false, cond, List, [], ◌∷◌, ◌++◌, length, take, drop, Option, None, Some, refl, sym, ap, subst, ◌∙◌, inl, inr, arith, All, AllPairs, remove}
use Rattle.std.specs.List.{Contains, range_with_len}
use Rattle.std.proofs.lemmas.List.Elements.{All-nil, All-append, All-push, All-take, All-drop, All-weaker, Contains-append_left, Contains-append_right}
use Rattle.std.proofs.lemmas.List.Quantifiers.{position-Some, all_pairs_push, all_pairs_remove}
use Rattle.reh_types.specs.declared.calls.Call.{Call}
use Rattle.reh_types.specs.declared.calls.Call.TheVariants.{Ask, Checkout, Spend, Discard}
use Rattle.reh_types.specs.declared.calls.Line.{Line}
use Rattle.reh_types.specs.declared.calls.TicketOut.{TicketOut}
use Rattle.reh_types.specs.declared.moves.Move.{Move}
use Rattle.reh_types.specs.declared.moves.Move.TheVariants.{Do, Post, Undo, Redo, Look}
use Rattle.reh_types.specs.declared.moves.Reply.{Reply}
use Rattle.reh_types.specs.declared.moves.Reply.TheVariants.{Issued, Discarded, Refused}
use Rattle.reh_types.specs.declared.names.Aim.{Aim}
use Rattle.reh_types.specs.declared.refusals.Refusal.{Refusal}
use Rattle.reh_model.specs.Checks.{first_reason}
use Rattle.reh_model.specs.Scan.{aim_refusal}
use Rattle.reh_model.specs.Session.{Session, state_of, reply_unless, reply_to}
use Rattle.reh_model.specs.Striping.{range}
use Rattle.reh_model.specs.Book.{Book, ticket, same_ticket, ticket_place, without, new_book, tape_full, not_out, or_refused, answer_to, is_written, changed, book_after, Legal, issued_by, issued_on, issue_of}
use Rattle.reh_desk.specs.Kept.{line}

-- One line

-- d has the tickets of b that are out, or all but one
abbrev Fewer : List TicketOut → List TicketOut → Type 0
Fewer before after = (after ≡ before) ⊎ ((i : ℕ) × (i < length before) × (after ≡ remove before i))

-- a line from b to c that issues no ticket
record IssuesNone (b : Book) (l : Line) (c : Book) : Type 0 where
  none : issued_by l.reply ≡ []
  last : c.last_ticket ≡ b.last_ticket
  out : Fewer b.out c.out

-- and one that issues the next ticket
record IssuesNext (b : Book) (l : Line) (c : Book) : Type 0 where
  issued : TicketOut
  is : l ≡ issue_of issued
  number : issued.number ≡ b.last_ticket + 1
  last : c.last_ticket ≡ b.last_ticket + 1
  out : c.out ≡ b.out ++ issued ∷ []

-- nothing but a checkout issues a ticket
pub refused_none : (o : Option Refusal) (reply : Reply) → issued_by reply ≡ [] → issued_by (or_refused o reply) ≡ []
refused_none None reply none = none
refused_none (Some refusal) reply none = refl

unless_none : (o : Option Refusal) → issued_by (reply_unless o) ≡ []
unless_none None = refl
unless_none (Some refusal) = refl

pub move_none : (m : Session) (move : Move) → issued_by (reply_to m move) ≡ []
move_none m (Do event) = unless_none _
move_none m (Post content) = unless_none _
move_none m Undo = unless_none _
move_none m Redo = unless_none _
move_none m Look = refl

without_fewer : (t : TicketOut) (out : List TicketOut) → Fewer out (without t out)
without_fewer t out =
    (elim (ticket_place t out) as (λ place. ticket_place t out ≡ place → Fewer out (without t out)) [
      | None ↦ λ is. inl (rw is refl)
      | (Some i) ↦ λ is. inr (i, (position-Some (λ u. same_ticket u t) out i t is).0, rw is refl)
    ]) refl

-- a line that leaves the last number, and no more tickets out
issues_none : (b d : Book) (l : Line) → issued_by l.reply ≡ [] → d.last_ticket ≡ b.last_ticket → Fewer b.out d.out → IssuesNone b l (cond (is_written l.reply) (record d { lines = b.lines + 1 }) b)
issues_none b d l none last out =
    elim (is_written l.reply) as (λ w. IssuesNone b l (cond w (record d { lines = b.lines + 1 }) b)) [
      | true ↦ record { none = none; last = last; out = out }
      | false ↦ record { none = none; last = refl; out = inl refl }
    ]

-- a checkout
checkout_step : (b : Book) (seat : ℕ) (aim : Aim) (reply : Reply) (o : Option Refusal) → reply ≡ or_refused o (Issued (b.last_ticket + 1))
    → IssuesNone b (line seat (Checkout aim) reply) (book_after b seat (Checkout aim) reply) ⊎ IssuesNext b (line seat (Checkout aim) reply) (book_after b seat (Checkout aim) reply)
checkout_step b seat aim reply None is = rw is (inr (record { issued = ticket seat (b.last_ticket + 1) aim; is = refl; number = refl; last = refl; out = refl }))
checkout_step b seat aim reply (Some refusal) is = rw is (inl (issues_none b b (line seat (Checkout aim) (Refused refusal)) refl refl (inl refl)))

step : (b : Book) (l : Line) → l.reply ≡ answer_to b l.seat l.call → IssuesNone b l (book_after b l.seat l.call l.reply) ⊎ IssuesNext b l (book_after b l.seat l.call l.reply)
step b l is = step_of l.call l.seat l.reply is
  where
    step_of : (call : Call) (seat : ℕ) (reply : Reply) → reply ≡ answer_to b seat call → IssuesNone b (line seat call reply) (book_after b seat call reply) ⊎ IssuesNext b (line seat call reply) (book_after b seat call reply)
    step_of (Ask move) seat reply is = inl (issues_none b (changed b seat (Ask move) reply) (line seat (Ask move) reply) (ap issued_by is ∙ refused_none (tape_full b 1) _ (move_none b.session move)) refl (inl refl))
    step_of (Checkout aim) seat reply is = checkout_step b seat aim reply (first_reason (tape_full b 2 ∷ aim_refusal (state_of b.session) aim ∷ [])) is
    step_of (Spend number content) seat reply is =
        let t = ticket seat number content.aim in
        inl (issues_none b (changed b seat (Spend number content) reply) (line seat (Spend number content) reply) (ap issued_by is ∙ refused_none (not_out b t) _ (move_none b.session (Post content))) refl (without_fewer t b.out))
    step_of (Discard number aim) seat reply is =
        let t = ticket seat number aim in inl (issues_none b (changed b seat (Discard number aim) reply) (line seat (Discard number aim) reply) (ap issued_by is ∙ refused_none (not_out b t) Discarded refl) refl (without_fewer t b.out))

-- Numbers

-- along a tape the tickets are numbered from the next one on
record Numbers (b : Book) (tape : List Line) (c : Book) : Type 0 where
  count : ℕ
  last : c.last_ticket ≡ b.last_ticket + count
  issued : issued_on tape ≡ range_with_len (b.last_ticket + 1) count

numbers : (b c : Book) (tape : List Line) → Legal b tape c → Numbers b tape c
numbers b c [] legal = record { count = 0; last = ap (λ (x : Book). x.last_ticket) legal ∙ (omega arith); issued = refl }
numbers b c (l ∷ tape) legal = with_step (step b l legal.0) (numbers (book_after b l.seat l.call l.reply) c tape legal.2)
  where
    mid : Book
    mid = book_after b l.seat l.call l.reply

    with_step : IssuesNone b l mid ⊎ IssuesNext b l mid → Numbers mid tape c → Numbers b (l ∷ tape) c
    with_step (inl h) later = record {
      count = later.count;
      last = later.last ∙ ap (λ n. n + later.count) h.last;
      issued = ap (λ ns. ns ++ issued_on tape) h.none ∙ later.issued ∙ ap (λ n. range_with_len (n + 1) later.count) h.last;
    }
    with_step (inr h) later = record {
      count = suc later.count;
      last = later.last ∙ (omega (arith, h.last));
      issued =
          ap (λ (x : Line). issued_by x.reply ++ issued_on tape) h.is
          ∙ (λ i. h.number i ∷ later.issued i)
          ∙ ap (λ n. (b.last_ticket + 1) ∷ range_with_len (n + 1) later.count) h.last;
    }

-- from a new book they are numbered from 1 on, up to the last one
pub numbered : (m : Session) (tape : List Line) (b : Book) → Legal (new_book m) tape b → issued_on tape ≡ range 1 (b.last_ticket + 1)
numbered m tape b legal =
    let h = numbers (new_book m) b tape legal in
    let count : h.count ≡ (b.last_ticket + 1) - 1 = omega (arith, h.last) in
    h.issued ∙ ap (λ n. range_with_len 1 n) count

-- Tickets that are out

-- what holds of those that were out, and of each that is issued, holds of those that are out
along : (P : TicketOut → Type 0) (b c : Book) (tape : List Line) → Legal b tape c → All P b.out → ((t : TicketOut) → Contains tape (issue_of t) → P t) → All P c.out
along P b c [] legal before each = subst (λ (x : Book). All P x.out) (sym legal) before
along P b c (l ∷ tape) legal before each =
    along P mid c tape legal.2 (with_step (step b l legal.0)) (λ t on. each t (Contains-append_right (l ∷ []) tape (issue_of t) on))
  where
    mid : Book
    mid = book_after b l.seat l.call l.reply

    with_step : IssuesNone b l mid ⊎ IssuesNext b l mid → All P mid.out
    with_step (inl h) = fewer h.out
      where
        fewer : Fewer b.out mid.out → All P mid.out
        fewer (inl same) = subst (λ (out : List TicketOut). All P out) (sym same) before
        fewer (inr less) =
            subst (λ (out : List TicketOut). All P out) (sym less.2) (All-append P (take less.0 b.out) (drop (suc less.0) b.out) (All-take P less.0 b.out before) (All-drop P (suc less.0) b.out before))
    with_step (inr h) = subst (λ (out : List TicketOut). All P out) (sym h.out) (All-push P b.out h.issued before (each h.issued (Contains-append_left (l ∷ []) tape (issue_of h.issued) (0, omega arith, h.is))))

pub issued_out : (m : Session) (tape : List Line) (b : Book) → Legal (new_book m) tape b → All (λ t. Contains tape (issue_of t)) b.out
issued_out m tape b legal = along (λ t. Contains tape (issue_of t)) (new_book m) b tape legal (All-nil _) (λ t on. on)

abbrev IsBelow : ℕ → TicketOut → Type 0
IsBelow last t = t.number ≤ last

abbrev IsEarlier : TicketOut → TicketOut → Type 0
IsEarlier t u = t.number < u.number

-- those that are out have rising numbers, up to the last one
record Rises (last : ℕ) (out : List TicketOut) : Type 0 where
  within : All (IsBelow last) out
  rising : AllPairs IsEarlier out

fewer_rise : (last : ℕ) (before after : List TicketOut) → Fewer before after → Rises last before → Rises last after
fewer_rise last before after (inl same) h = subst (Rises last) (sym same) h
fewer_rise last before after (inr less) h =
    let i = less.0 in
    subst (Rises last) (sym less.2) (record {
      within = All-append (IsBelow last) (take i before) (drop (suc i) before) (All-take (IsBelow last) i before h.within) (All-drop (IsBelow last) (suc i) before h.within);
      rising = all_pairs_remove IsEarlier before i less.1 h.rising;
    })

next_rises : (last : ℕ) (out : List TicketOut) (t : TicketOut) → t.number ≡ last + 1 → Rises last out → Rises (last + 1) (out ++ t ∷ [])
next_rises last out t number h = record {
  within = All-push (IsBelow (last + 1)) out t (All-weaker (IsBelow last) (IsBelow (last + 1)) (λ u low. omega (arith, low)) out h.within) (omega (arith, number));
  rising = all_pairs_push IsEarlier out t h.rising (λ k d short. omega (arith, h.within k d short, number));
}

rises : (b c : Book) (tape : List Line) → Legal b tape c → Rises b.last_ticket b.out → Rises c.last_ticket c.out
rises b c [] legal before = subst (λ (x : Book). Rises x.last_ticket x.out) (sym legal) before
rises b c (l ∷ tape) legal before = rises mid c tape legal.2 (with_step (step b l legal.0))
  where
    mid : Book
    mid = book_after b l.seat l.call l.reply

    with_step : IssuesNone b l mid ⊎ IssuesNext b l mid → Rises mid.last_ticket mid.out
    with_step (inl h) = subst (λ n. Rises n mid.out) (sym h.last) (fewer_rise b.last_ticket b.out mid.out h.out before)
    with_step (inr h) = subst (λ n. Rises n mid.out) (sym h.last) (subst (Rises (b.last_ticket + 1)) (sym h.out) (next_rises b.last_ticket b.out h.issued h.number before))

pub rising_out : (m : Session) (tape : List Line) (b : Book) → Legal (new_book m) tape b → AllPairs IsEarlier b.out
rising_out m tape b legal = (rises (new_book m) b tape legal (record { within = All-nil (IsBelow 0); rising = λ i j d less short. absurd (omega arith) })).rising
