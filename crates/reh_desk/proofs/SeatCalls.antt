-- What calls leave of their caller: a checkout that is refused, and those that end a ticket; and how many tickets are out after them.
use Rattle.std.proofs.Common.{◌≡◌, ℕ, ◌+◌, ◌-◌, Bool, true, false, List, length, Option, None, Some, refl, sym, ap, ◌∙◌, inl, inr, arith, true≢false, remove}
use Rattle.std.specs.Prelude.{◌⊎◌, IsTrue, is_none}
use Rattle.std.specs.Option.{option_map_or}
use Rattle.std.proofs.lemmas.List.Edits.{length-remove}
use Rattle.std.proofs.lemmas.List.Quantifiers.{position-Some}
use Rattle.reh_types.specs.declared.calls.Call.{Call}
use Rattle.reh_types.specs.declared.calls.Call.TheVariants.{Checkout, Spend, Discard}
use Rattle.reh_types.specs.declared.calls.OwnLine.{OwnLine}
use Rattle.reh_types.specs.declared.calls.TicketOut.{TicketOut}
use Rattle.reh_types.specs.declared.contents.Content.{Content}
use Rattle.reh_types.specs.declared.moves.Move.TheVariants.{Post}
use Rattle.reh_types.specs.declared.moves.Reply.{Reply}
use Rattle.reh_types.specs.declared.moves.Reply.TheVariants.{Issued, Discarded, Refused}
use Rattle.reh_types.specs.declared.names.Aim.{Aim}
use Rattle.reh_types.specs.declared.refusals.Refusal.{Refusal}
use Rattle.reh_types.specs.declared.refusals.Refusal.TheVariants.{NotOut, NoMemory}
use Rattle.reh_model.specs.Cluster.{Cluster}
use Rattle.reh_model.specs.Checks.{reason_if}
use Rattle.reh_model.specs.Scan.{aim_refusal}
use Rattle.reh_model.specs.Session.{reply_to, reply_unless}
use Rattle.reh_model.proofs.BookLaws.{aim_written}
use Rattle.reh_model.specs.Book.{ticket, same_ticket, ticket_place, without, or_refused, answer_to, MayWantMemory, is_written, changed}
use Rattle.reh_desk.specs.Kept.{Kept, Called}
use Rattle.reh_desk.specs.Callers.{none_out, with_line, with_out, caller_after}
use Rattle.reh_desk.specs.Seats.{SeatView, own_line, out_after, gained}

-- a caller whose ticket is out no more, with the line of the call that ended it
pub ended : (keeps : Bool) (s t u : SeatView) (call : Call) (reply : Reply) → IsTrue (is_written reply)
    → out_after call reply s.out ≡ s.out - 1 → t ≡ with_out keeps s (s.out - 1)
    → u ≡ with_line keeps t (own_line call reply) → u ≡ caller_after keeps s call reply
ended true s t u call reply written fewer t_is u_is = rw (u_is, t_is, written, fewer) refl
ended false s t u call reply written fewer t_is u_is = rw (u_is, t_is) refl

-- a line more leaves the count of tickets
pub with_line-out : (keeps : Bool) (s : SeatView) (line : OwnLine) → (with_line keeps s line).out ≡ s.out
with_line-out true s line = refl
with_line-out false s line = refl

-- a caller with a ticket more, and the line of the checkout that issued it
pub with_ticket : (keeps : Bool) (s t u v : SeatView) (aim : Aim) (number : ℕ) → t ≡ s
    → u ≡ with_line keeps t (own_line (Checkout aim) (Issued number)) → v ≡ with_out keeps u (u.out + 1)
    → v ≡ caller_after keeps s (Checkout aim) (Issued number)
with_ticket true s t u v aim number t_is u_is v_is = rw (v_is, u_is, t_is) refl
with_ticket false s t u v aim number t_is u_is v_is = rw (v_is, u_is, t_is) refl

-- a caller with the line of a checkout that is refused for its aim
pub aim_refused : (keeps : Bool) (s t u : SeatView) (state : Cluster) (aim : Aim) (refusal : Refusal)
    → aim_refusal state aim ≡ Some refusal → t ≡ s
    → u ≡ with_line keeps t (own_line (Checkout aim) (Refused refusal))
    → u ≡ caller_after keeps s (Checkout aim) (Refused refusal)
aim_refused true s t u state aim refusal is t_is u_is =
    let written : IsTrue (is_written (Refused refusal)) =
    ap (λ x. is_written (reply_unless x)) (sym is) ∙ aim_written state aim in
    rw (u_is, t_is, written) refl
aim_refused false s t u state aim refusal is t_is u_is = rw (u_is, t_is) refl

-- a spend that adds a line was of a ticket that was out
found : (t : TicketOut) (out : List TicketOut) (reply other : Reply) (o : Option ℕ) → ticket_place t out ≡ o → reply ≡ or_refused (reason_if (is_none o) NotOut) other → IsTrue (is_written reply)
    → length (option_map_or (remove out) o out) + 1 ≡ length out
found t out reply other None at is written = absurd (true≢false (sym written ∙ ap is_written is))
found t out reply other (Some i) at is written = length-remove out i (position-Some (λ u. same_ticket u t) out i t at).0

-- a call that takes a ticket from those that are out leaves a seat that counts those that are left
ended_counted : (k n : Kept) (s : SeatView) (call : Call) (reply other : Reply) (t : TicketOut)
    → answer_to k.book s.number call ≡ or_refused (reason_if (is_none (ticket_place t k.book.out)) NotOut) other
    → (changed k.book s.number call reply).out ≡ without t k.book.out → out_after call reply s.out ≡ s.out - 1
    → length k.book.out ≡ s.out → (none_out true s ≡ false → Called k s.number call reply n)
    → (none_out true s ≡ true → (reply ≡ Refused NotOut) × (n ≡ k)) → length n.book.out ≡ (gained s call reply).out
ended_counted k n s call reply other t answer takes counts count called none =
    (elim (none_out true s) as (λ b. none_out true s ≡ b → length n.book.out ≡ (gained s call reply).out) [
      | true ↦ λ is. rw ((none is).0, (none is).1) count
      | false ↦ λ is. of (called is)
    ]) refl
  where
    fewer : (reply ≡ answer_to k.book s.number call)
        ⊎ ((reply ≡ Refused NoMemory) × MayWantMemory call (answer_to k.book s.number call)) → IsTrue (is_written reply)
        → length (without t k.book.out) + 1 ≡ length k.book.out
    fewer (inl is) written = found t k.book.out reply other (ticket_place t k.book.out) refl (is ∙ answer) written
    fewer (inr wants) written = absurd (true≢false (sym written ∙ ap is_written wants.0))

    of : Called k s.number call reply n → length n.book.out ≡ (gained s call reply).out
    of c =
        (elim (is_written reply) as (λ w. is_written reply ≡ w → length n.book.out ≡ (gained s call reply).out) [
          | true ↦ λ written.
              let less = fewer c.answers.0 written in rw (c.answers.1, written, takes, counts) (omega (arith, less, count))
          | false ↦ λ unwritten. rw (c.answers.1, unwritten) count
        ]) refl

pub spent_counted : (k n : Kept) (s : SeatView) (number : ℕ) (content : Content) (reply : Reply)
    → length k.book.out ≡ s.out → (none_out true s ≡ false → Called k s.number (Spend number content) reply n)
    → (none_out true s ≡ true → (reply ≡ Refused NotOut) × (n ≡ k))
    → length n.book.out ≡ (gained s (Spend number content) reply).out
spent_counted k n s number content reply =
    ended_counted k n s (Spend number content) reply (reply_to k.book.session (Post content))
    (ticket s.number number content.aim) refl refl refl

pub discarded_counted : (k n : Kept) (s : SeatView) (number : ℕ) (aim : Aim) (reply : Reply)
    → length k.book.out ≡ s.out → (none_out true s ≡ false → Called k s.number (Discard number aim) reply n)
    → (none_out true s ≡ true → (reply ≡ Refused NotOut) × (n ≡ k))
    → length n.book.out ≡ (gained s (Discard number aim) reply).out
discarded_counted k n s number aim reply =
    ended_counted k n s (Discard number aim) reply Discarded (ticket s.number number aim) refl refl refl
