-- Calls that add a line: what they answer, and that a book keeps what it keeps.
use Rattle.std.proofs.Common.{◌≡◌, ◌≢◌, ℕ, ◌+◌, ◌≤◌, true, false, List, [], ◌∷◌, ◌++◌, length, Option, None, Some, refl, sym, ap, subst, ◌∙◌, inl, inr, arith, length-append, true≢false}
use Rattle.std.specs.Prelude.{IsTrue, nat_lt, if◌then◌else◌, remove, unwrap_or}
use Rattle.std.proofs.lemmas.Bool.Decides.{nat_tests}
use Rattle.reh_types.specs.declared.limits.TheConstants.{MAX_LINES}
use Rattle.reh_types.specs.declared.calls.Call.{Call}
use Rattle.reh_types.specs.declared.calls.Call.TheVariants.{Ask, Checkout, Spend, Discard}
use Rattle.reh_types.specs.declared.calls.Line.{Line}
use Rattle.reh_types.specs.declared.calls.TicketOut.{TicketOut}
use Rattle.reh_types.specs.declared.contents.Content.{Content}
use Rattle.reh_types.specs.declared.moves.Move.{Move}
use Rattle.reh_types.specs.declared.moves.Move.TheVariants.{Post}
use Rattle.reh_types.specs.declared.moves.Reply.{Reply}
use Rattle.reh_types.specs.declared.moves.Reply.TheVariants.{Issued, Discarded, Refused}
use Rattle.reh_types.specs.declared.names.Aim.{Aim}
use Rattle.reh_types.specs.declared.refusals.Refusal.{Refusal}
use Rattle.reh_types.specs.declared.refusals.Refusal.TheVariants.{TapeFull, NoMemory}
use Rattle.reh_model.specs.Cluster.{Cluster}
use Rattle.reh_model.specs.Scan.{aim_refusal}
use Rattle.reh_model.specs.Session.{Session, replay, state_of, reply_unless, reply_to, session_after, Performs}
use Rattle.reh_model.specs.Checks.{first_reason}
use Rattle.reh_model.specs.Book.{Book, ticket, ticket_place, new_book, or_refused, answer_to, is_written, book_after, Legal}
use Rattle.reh_model.proofs.BookLaws.{post_written, reply_written, aim_written, Legal-push}
use Rattle.reh_desk.specs.Kept.{Kept, kept_of, line, Called, IsKept}

-- Calls with a line

-- n is what a call of k leaves that adds a line
pub record IsLine (k : Kept) (seat : ℕ) (call : Call) (reply : Reply) (n : Kept) : Type 0 where
  pub answer : reply ≡ answer_to k.book seat call
  pub written : IsTrue (is_written reply)
  pub opening : n.opening ≡ k.opening
  pub tape : n.tape ≡ k.tape ++ line seat call reply ∷ []
  pub book : n.book ≡ book_after k.book seat call reply

pub called_line : {k : Kept} {seat : ℕ} {call : Call} {reply : Reply} {n : Kept} → IsLine k seat call reply n → Called k seat call reply n
called_line {k} {seat} {call} {reply} {n} h = record {
  answers = (inl h.answer, h.book);
  tape = h.tape ∙ ap (λ b. if b then k.tape ++ line seat call reply ∷ [] else k.tape) (sym h.written);
  opening = h.opening;
}

-- the book is where the longer tape leads
legal_line : {k : Kept} {seat : ℕ} {call : Call} {reply : Reply} {n : Kept} → Legal (new_book k.opening) k.tape k.book → IsLine k seat call reply n → Legal (new_book n.opening) n.tape n.book
legal_line {k} {seat} {call} {reply} {n} legal h =
    let pushed : Legal (new_book k.opening) (k.tape ++ line seat call reply ∷ []) (book_after k.book seat call reply) = Legal-push _ _ k.tape seat call reply legal h.answer h.written in
    subst (λ (o : Session). Legal (new_book o) n.tape n.book) (sym h.opening)
    (subst (λ (lines : List Line). Legal (new_book k.opening) lines n.book) (sym h.tape)
    (subst (λ (b : Book). Legal (new_book k.opening) (k.tape ++ line seat call reply ∷ []) b) (sym h.book) pushed))

pub kept_line : {k : Kept} {room : ℕ} {seat : ℕ} {call : Call} {reply : Reply} {n : Kept} → IsKept k room → IsLine k seat call reply n → (more : ℕ) → n.book.lines ≡ length n.tape → n.book.last_ticket ≤ n.book.lines
    → n.book.lines + length n.book.out ≤ MAX_LINES → n.book.lines + length n.book.out ≤ more → IsKept n more
kept_line kept h more lines numbered few reserved = record {
  legal = legal_line kept.legal h;
  lines = lines;
  few = few;
  numbered = numbered;
  reserved = reserved;
}

-- a reply that adds a line is no full tape
pub not_full : (reply : Reply) → IsTrue (is_written reply) → reply ≢ Refused TapeFull
not_full reply written full = true≢false (sym written ∙ ap is_written full)

-- nor is the answer to an aim that is asked
not_full_for : (refusal : Option Refusal) (number : ℕ) → IsTrue (is_written (reply_unless refusal)) → or_refused (first_reason (refusal ∷ [])) (Issued number) ≢ Refused TapeFull
not_full_for None number written = not_full (Issued number) refl
not_full_for (Some refusal) number written = not_full (Refused refusal) written

-- one line more
length_push : (lines : List Line) (l : Line) → length (lines ++ l ∷ []) ≡ length lines + 1
length_push lines l = length-append lines (l ∷ [])

-- a checkout where as many tickets are out as a tape may have lines
pub most_out : (k : Kept) (seat : ℕ) (aim : Aim) → MAX_LINES ≤ length k.book.out → Called k seat (Checkout aim) (Refused TapeFull) k
most_out k seat aim most =
    let full : nat_lt MAX_LINES (k.book.lines + length k.book.out + 2) ≡ true = grind (arith, nat_tests) in
    record { answers = (inl (rw full refl), refl); tape = refl; opening = refl }

-- Moves

module _ (o s : Session) (lines : List Line) (last : ℕ) (out : List TicketOut) (seat : ℕ) where
  abbrev before : Kept
  before = kept_of o s lines last out

  -- a move of the session adds its line
  pub asked : (t : Session) (move : Move) (reply : Reply) → length lines + length out + 1 ≤ MAX_LINES → Performs s move reply t → IsTrue (is_written reply)
      → IsLine before seat (Ask move) reply (kept_of o t (lines ++ line seat (Ask move) reply ∷ []) last out)
  asked t move reply fits (inl made) written =
      let room : nat_lt MAX_LINES (length lines + length out + 1) ≡ false = grind (arith, nat_tests) in
      record {
        answer = rw room made.0;
        written = written;
        opening = refl;
        tape = refl;
        book = rw (written, length_push lines (line seat (Ask move) reply), made.1) refl;
      }
  asked t move reply fits (inr wanting) written = absurd (true≢false (sym written ∙ ap is_written wanting.1))

  -- a move that was not made for lack of room
  pub not_asked : (move : Move) (refusal : Refusal) → refusal ≡ (if nat_lt MAX_LINES (length lines + length out + 1) then TapeFull else NoMemory) → Called before seat (Ask move) (Refused refusal) before
  not_asked move refusal is =
      (elim (nat_lt MAX_LINES (length lines + length out + 1)) as (λ b. nat_lt MAX_LINES (length lines + length out + 1) ≡ b → refusal ≡ (if b then TapeFull else NoMemory) → Called before seat (Ask move) (Refused refusal) before) [
        | true ↦ λ full is. rw is (record { answers = (inl (rw full refl), refl); tape = refl; opening = refl })
        | false ↦ λ room is. rw is (record { answers = (inr (refl, rw room (not_full _ (reply_written s move))), refl); tape = refl; opening = refl })
      ]) refl is

  -- nor for lack of memory for what its line holds
  pub not_copied : (move : Move) → length lines + length out + 1 ≤ MAX_LINES → Called before seat (Ask move) (Refused NoMemory) before
  not_copied move fits =
      let room : nat_lt MAX_LINES (length lines + length out + 1) ≡ false = grind (arith, nat_tests) in not_asked move NoMemory (rw room refl)

  -- a checkout that is not made for lack of room, or of memory
  pub not_issued : (aim : Aim) (refusal : Refusal) → refusal ≡ (if nat_lt MAX_LINES (length lines + length out + 2) then TapeFull else NoMemory) → Called before seat (Checkout aim) (Refused refusal) before
  not_issued aim refusal is =
      (elim (nat_lt MAX_LINES (length lines + length out + 2)) as (λ b. nat_lt MAX_LINES (length lines + length out + 2) ≡ b → refusal ≡ (if b then TapeFull else NoMemory) → Called before seat (Checkout aim) (Refused refusal) before) [
        | true ↦ λ full is. rw is (record { answers = (inl (rw full refl), refl); tape = refl; opening = refl })
        | false ↦ λ room is. rw is (record { answers = (inr (refl, rw room (not_full_for _ _ (aim_written (state_of s) aim))), refl); tape = refl; opening = refl })
      ]) refl is

  -- nor for lack of memory alone
  pub not_stored : (aim : Aim) → length lines + length out + 2 ≤ MAX_LINES → Called before seat (Checkout aim) (Refused NoMemory) before
  not_stored aim fits =
      let room : nat_lt MAX_LINES (length lines + length out + 2) ≡ false = grind (arith, nat_tests) in not_issued aim NoMemory (rw room refl)

  -- of the book that contracts see, where the tape has the same lines
  pub unchanged : (k : Kept) (same : List Line) (call : Call) (reply : Reply) → before ≡ k → same ≡ lines → Called before seat call reply before
      → Called k seat call reply (kept_of o s same last out)
  unchanged k same call reply seen is called =
      subst (λ (x : Kept). Called x seat call reply (kept_of o s same last out)) seen
      (subst (λ (ls : List Line). Called before seat call reply (kept_of o s ls last out)) (sym is) called)

  -- a checkout that is refused for its aim adds its line
  pub refused : (u : Cluster) (aim : Aim) (refusal : Refusal) → length lines + length out + 2 ≤ MAX_LINES → replay s.opening s.done ≡ Some u → aim_refusal u aim ≡ Some refusal
      → IsLine before seat (Checkout aim) (Refused refusal) (kept_of o s (lines ++ line seat (Checkout aim) (Refused refusal) ∷ []) last out)
  refused u aim refusal fits replays is =
      let room : nat_lt MAX_LINES (length lines + length out + 2) ≡ false = grind (arith, nat_tests) in
      let at : aim_refusal (state_of s) aim ≡ Some refusal = ap (λ (x : Option Cluster). aim_refusal (unwrap_or x s.opening) aim) replays ∙ is in
      let written : IsTrue (is_written (Refused refusal)) = ap (λ x. is_written (reply_unless x)) (sym at) ∙ aim_written (state_of s) aim in
      record {
        answer = rw (room, at) refl;
        written = written;
        opening = refl;
        tape = refl;
        book = rw (written, length_push lines (line seat (Checkout aim) (Refused refusal))) refl;
      }

  -- a ticket that is issued
  pub issued : (u : Cluster) (aim : Aim) → length lines + length out + 2 ≤ MAX_LINES → replay s.opening s.done ≡ Some u → aim_refusal u aim ≡ None
      → IsLine before seat (Checkout aim) (Issued (last + 1)) (kept_of o s (lines ++ line seat (Checkout aim) (Issued (last + 1)) ∷ []) (last + 1) (out ++ ticket seat (last + 1) aim ∷ []))
  issued u aim fits replays is =
      let room : nat_lt MAX_LINES (length lines + length out + 2) ≡ false = grind (arith, nat_tests) in
      let at : aim_refusal (state_of s) aim ≡ None = ap (λ (x : Option Cluster). aim_refusal (unwrap_or x s.opening) aim) replays ∙ is in
      record {
        answer = rw (room, at) refl;
        written = refl;
        opening = refl;
        tape = refl;
        book = rw (length_push lines (line seat (Checkout aim) (Issued (last + 1)))) refl;
      }

  -- a ticket that is spent, and is out no more
  pub spent : (t : Session) (number place : ℕ) (content : Content) (reply : Reply) → ticket_place (ticket seat number content.aim) out ≡ Some place
      → reply ≡ reply_to s (Post content) → t ≡ session_after s (Post content) reply
      → IsLine before seat (Spend number content) reply (kept_of o t (lines ++ line seat (Spend number content) reply ∷ []) last (remove out place))
  spent t number place content reply at is made =
      let written : IsTrue (is_written reply) = ap is_written is ∙ post_written s content in
      record {
        answer = rw at is;
        written = written;
        opening = refl;
        tape = refl;
        book = rw (written, length_push lines (line seat (Spend number content) reply), at, made) refl;
      }

  -- a ticket that is given back
  pub discarded : (number place : ℕ) (aim : Aim) → ticket_place (ticket seat number aim) out ≡ Some place
      → IsLine before seat (Discard number aim) Discarded (kept_of o s (lines ++ line seat (Discard number aim) Discarded ∷ []) last (remove out place))
  discarded number place aim at = record {
    answer = rw at refl;
    written = refl;
    opening = refl;
    tape = refl;
    book = rw (length_push lines (line seat (Discard number aim) Discarded), at) refl;
  }

  module _ {room : ℕ} (kept : IsKept before room) where
    -- and the book keeps what it keeps
    pub asked_kept : (more : ℕ) (t : Session) (move : Move) (reply : Reply) → length lines + length out + 1 ≤ MAX_LINES → Performs s move reply t → IsTrue (is_written reply)
        → length lines + length out + 1 ≤ more → IsKept (kept_of o t (lines ++ line seat (Ask move) reply ∷ []) last out) more
    asked_kept more t move reply fits performs written fits_in =
        let long = length_push lines (line seat (Ask move) reply) in
        kept_line kept (asked t move reply fits performs written) more refl (omega (arith, long, kept.numbered)) (omega (arith, long)) (omega (arith, long))

    pub refused_kept : (more : ℕ) (u : Cluster) (aim : Aim) (refusal : Refusal) → length lines + length out + 2 ≤ MAX_LINES → replay s.opening s.done ≡ Some u → aim_refusal u aim ≡ Some refusal
        → length lines + length out + 2 ≤ more → IsKept (kept_of o s (lines ++ line seat (Checkout aim) (Refused refusal) ∷ []) last out) more
    refused_kept more u aim refusal fits replays is fits_in =
        let long = length_push lines (line seat (Checkout aim) (Refused refusal)) in
        kept_line kept (refused u aim refusal fits replays is) more refl (omega (arith, long, kept.numbered)) (omega (arith, long)) (omega (arith, long))

    pub issued_kept : (more : ℕ) (u : Cluster) (aim : Aim) → length lines + length out + 2 ≤ MAX_LINES → replay s.opening s.done ≡ Some u → aim_refusal u aim ≡ None
        → length lines + length out + 2 ≤ more
        → IsKept (kept_of o s (lines ++ line seat (Checkout aim) (Issued (last + 1)) ∷ []) (last + 1) (out ++ ticket seat (last + 1) aim ∷ [])) more
    issued_kept more u aim fits replays is fits_in =
        let long = length_push lines (line seat (Checkout aim) (Issued (last + 1))) in
        let longer = length-append out (ticket seat (last + 1) aim ∷ []) in
        kept_line kept (issued u aim fits replays is) more refl (omega (arith, long, kept.numbered)) (omega (arith, long, longer)) (omega (arith, long, longer))

    pub spent_kept : (more : ℕ) (t : Session) (number place : ℕ) (content : Content) (reply : Reply) → ticket_place (ticket seat number content.aim) out ≡ Some place
        → reply ≡ reply_to s (Post content) → t ≡ session_after s (Post content) reply → length (remove out place) + 1 ≡ length out → room ≤ more
        → IsKept (kept_of o t (lines ++ line seat (Spend number content) reply ∷ []) last (remove out place)) more
    spent_kept more t number place content reply at is made less fits_in =
        let long = length_push lines (line seat (Spend number content) reply) in
        kept_line kept (spent t number place content reply at is made) more refl (omega (arith, long, kept.numbered)) (omega (arith, long, less, kept.few)) (omega (arith, long, less, kept.reserved))

    pub discarded_kept : (more : ℕ) (number place : ℕ) (aim : Aim) → ticket_place (ticket seat number aim) out ≡ Some place → length (remove out place) + 1 ≡ length out → room ≤ more
        → IsKept (kept_of o s (lines ++ line seat (Discard number aim) Discarded ∷ []) last (remove out place)) more
    discarded_kept more number place aim at less fits_in =
        let long = length_push lines (line seat (Discard number aim) Discarded) in
        kept_line kept (discarded number place aim at) more refl (omega (arith, long, kept.numbered)) (omega (arith, long, less, kept.few)) (omega (arith, long, less, kept.reserved))
