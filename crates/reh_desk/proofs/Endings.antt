-- Along a tape each ticket that was out, or was issued, is ended once or is out.
use Rattle.std.proofs.Common.{◌≡◌, ℕ, ◌+◌, true, List, [], ◌∷◌, ◌++◌, map, Option, None, Some, remove, get_or}
use Rattle.std.proofs.Common.{refl, sym, ap, subst, ◌∙◌, arith, append_assoc, append-nil, true≢false}
use Rattle.std.specs.Prelude.{IsTrue, is_none}
use Rattle.std.specs.List.Sorted.{IsPermutation}
use Rattle.std.specs.Option.{option_map_or}
use Rattle.std.proofs.lemmas.Bool.Decides.{nat_tests}
use Rattle.std.proofs.lemmas.List.{map-append}
use Rattle.std.proofs.lemmas.List.Quantifiers.{position-Some}
use Rattle.std.proofs.lemmas.List.Sorted.{IsPermutation-refl, IsPermutation-trans, IsPermutation-remove}
use Rattle.std.proofs.lemmas.List.Sorted.{IsPermutation-append_left, IsPermutation-append_right}
use Rattle.reh_types.specs.declared.calls.Call.{Call}
use Rattle.reh_types.specs.declared.calls.Call.TheVariants.{Ask, Checkout, Spend, Discard}
use Rattle.reh_types.specs.declared.calls.Line.{Line}
use Rattle.reh_types.specs.declared.calls.TicketOut.{TicketOut}
use Rattle.reh_types.specs.declared.moves.Move.TheVariants.{Post}
use Rattle.reh_types.specs.declared.moves.Reply.{Reply}
use Rattle.reh_types.specs.declared.moves.Reply.TheVariants.{Issued, Discarded}
use Rattle.reh_types.specs.declared.names.Aim.{Aim}
use Rattle.reh_types.specs.declared.refusals.Refusal.{Refusal}
use Rattle.reh_types.specs.declared.refusals.Refusal.TheVariants.{NotOut}
use Rattle.reh_model.specs.Checks.{first_reason, reason_if}
use Rattle.reh_model.specs.Scan.{aim_refusal}
use Rattle.reh_model.specs.Session.{Session, state_of, reply_to}
use Rattle.reh_model.specs.Book.{Book, new_book, answer_to, is_written, changed, book_after, Legal}
use Rattle.reh_model.specs.Book.{ticket, same_aim, same_ticket, ticket_place, tape_full, not_out, or_refused}
use Rattle.reh_model.specs.Book.{issued_by, issued_on}
use Rattle.reh_desk.proofs.Issues.{refused_none, move_none}
use Rattle.reh_desk.specs.Tickets.{issued_ticket, ended_ticket, issued_tickets, ended_tickets}

-- those that were out and those that are issued are those that are ended and those that are out after
abbrev Balance : List TicketOut → List TicketOut → List TicketOut → List TicketOut → Type 0
Balance before issued ended after = IsPermutation (before ++ issued) (ended ++ after)

-- One ticket

-- aims that are the same by their parts are equal,
aim_is : (a b : Aim) → same_aim a b ≡ true → a ≡ b
aim_is a b same =
    let worker : a.worker ≡ b.worker = grind (arith, nat_tests, same) in
    let ledger : a.ledger ≡ b.ledger = grind (arith, nat_tests, same) in
    let fragment : a.fragment ≡ b.fragment = grind (arith, nat_tests, same) in
    let index : a.index ≡ b.index = grind (arith, nat_tests, same) in
    λ i. record { worker = worker i; ledger = ledger i; fragment = fragment i; index = index i }

-- and so are tickets
ticket_is : (t u : TicketOut) → same_ticket t u ≡ true → t ≡ u
ticket_is t u same =
    let seat : t.seat ≡ u.seat = grind (arith, nat_tests, same) in
    let number : t.number ≡ u.number = grind (arith, nat_tests, same) in
    let aim : t.aim ≡ u.aim = aim_is t.aim u.aim (grind (arith, same)) in
    λ i. record { seat = seat i; number = number i; aim = aim i }

-- what is taken from the place of a ticket is that ticket
taken : (t : TicketOut) (out : List TicketOut) (i : ℕ) → ticket_place t out ≡ Some i
    → IsPermutation out (t ∷ remove out i)
taken t out i at =
    let found = position-Some (λ u. same_ticket u t) out i t at in
    IsPermutation-remove out i t found.0 (sym (ticket_is (get_or out i t) t found.1))

-- One line

-- none is issued
none_issued : (before after : List TicketOut) → IsPermutation before after → IsPermutation (before ++ []) after
none_issued before after same = subst (λ ts. IsPermutation ts after) (sym (append-nil before)) same

-- nor is one ended
same_out : (out : List TicketOut) → Balance out [] [] out
same_out out = none_issued out out (IsPermutation-refl out)

-- a spend or a discard that adds a line ends a ticket that was out
ended : (t : TicketOut) (out : List TicketOut) (reply other : Reply) (o : Option ℕ) → ticket_place t out ≡ o
    → reply ≡ or_refused (reason_if (is_none o) NotOut) other → IsTrue (is_written reply)
    → Balance out [] (t ∷ []) (option_map_or (remove out) o out)
ended t out reply other None at is written = absurd (true≢false (sym written ∙ ap is_written is))
ended t out reply other (Some i) at is written = none_issued out (t ∷ remove out i) (taken t out i at)

-- a checkout issues a ticket, or leaves them as they are
checkout : (b : Book) (seat : ℕ) (aim : Aim) (reply : Reply) (o : Option Refusal)
    → reply ≡ or_refused o (Issued (b.last_ticket + 1))
    → Balance b.out (issued_ticket seat (Checkout aim) reply) [] (changed b seat (Checkout aim) reply).out
checkout b seat aim reply None is = rw is (IsPermutation-refl (b.out ++ ticket seat (b.last_ticket + 1) aim ∷ []))
checkout b seat aim reply (Some refusal) is = rw is (same_out b.out)

changes : (b : Book) (seat : ℕ) (call : Call) (reply : Reply) → reply ≡ answer_to b seat call
    → IsTrue (is_written reply)
    → Balance b.out (issued_ticket seat call reply) (ended_ticket seat call) (changed b seat call reply).out
changes b seat (Ask move) reply is written = same_out b.out
changes b seat (Checkout aim) reply is written =
    checkout b seat aim reply (first_reason (tape_full b 2 ∷ aim_refusal (state_of b.session) aim ∷ [])) is
changes b seat (Spend number content) reply is written =
    let t = ticket seat number content.aim in
    ended t b.out reply (reply_to b.session (Post content)) (ticket_place t b.out) refl is written
changes b seat (Discard number aim) reply is written =
    let t = ticket seat number aim in ended t b.out reply Discarded (ticket_place t b.out) refl is written

one_line : (b : Book) (seat : ℕ) (call : Call) (reply : Reply) → reply ≡ answer_to b seat call
    → IsTrue (is_written reply)
    → Balance b.out (issued_ticket seat call reply) (ended_ticket seat call) (book_after b seat call reply).out
one_line b seat call reply is written =
    let after : (book_after b seat call reply).out ≡ (changed b seat call reply).out = rw written refl in
    subst (Balance b.out (issued_ticket seat call reply) (ended_ticket seat call)) (sym after)
    (changes b seat call reply is written)

-- Tapes

-- a line and then a tape
then : (before issued ended mid issued_later ended_later after : List TicketOut) → Balance before issued ended mid
    → Balance mid issued_later ended_later after
    → Balance before (issued ++ issued_later) (ended ++ ended_later) after
then before issued ended mid issued_later ended_later after line later =
    let all = before ++ (issued ++ issued_later) in
    let first : IsPermutation ((before ++ issued) ++ issued_later) ((ended ++ mid) ++ issued_later) =
    IsPermutation-append_left issued_later (before ++ issued) (ended ++ mid) line
    in
    let second : IsPermutation (ended ++ (mid ++ issued_later)) (ended ++ (ended_later ++ after)) =
    IsPermutation-append_right ended (mid ++ issued_later) (ended_later ++ after) later
    in
    let from : IsPermutation all ((ended ++ mid) ++ issued_later) =
    subst (λ ts. IsPermutation ts ((ended ++ mid) ++ issued_later)) (append_assoc before issued issued_later) first
    in
    let between : IsPermutation all (ended ++ (mid ++ issued_later)) =
    subst (IsPermutation all) (append_assoc ended mid issued_later) from
    in
    subst (IsPermutation all) (sym (append_assoc ended ended_later after))
    (IsPermutation-trans all (ended ++ (mid ++ issued_later)) (ended ++ (ended_later ++ after)) between second)

along : (b c : Book) (tape : List Line) → Legal b tape c
    → Balance b.out (issued_tickets tape) (ended_tickets tape) c.out
along b c [] legal = subst (λ (x : Book). Balance b.out [] [] x.out) (sym legal) (same_out b.out)
along b c (l ∷ tape) legal =
    let mid = book_after b l.seat l.call l.reply in
    then b.out (issued_ticket l.seat l.call l.reply) (ended_ticket l.seat l.call) mid.out (issued_tickets tape)
    (ended_tickets tape) c.out (one_line b l.seat l.call l.reply legal.0 legal.1) (along mid c tape legal.2)

-- each ticket that is issued is ended or is out,
pub each_ends : (m : Session) (tape : List Line) (b : Book) → Legal (new_book m) tape b
    → IsPermutation (issued_tickets tape) (ended_tickets tape ++ b.out)
each_ends m tape b legal = along (new_book m) b tape legal

-- and ended where none is out
pub all_end : (m : Session) (tape : List Line) (b : Book) → Legal (new_book m) tape b → b.out ≡ []
    → IsPermutation (issued_tickets tape) (ended_tickets tape)
all_end m tape b legal none =
    let left = ap (λ out. ended_tickets tape ++ out) none ∙ append-nil (ended_tickets tape) in
    subst (IsPermutation (issued_tickets tape)) left (each_ends m tape b legal)

-- Numbers

-- tickets that are made of numbers have those
numbers_back : (seat : ℕ) (aim : Aim) (numbers : List ℕ)
    → map (λ t. t.number) (map (λ number. ticket seat number aim) numbers) ≡ numbers
numbers_back seat aim [] = refl
numbers_back seat aim (number ∷ numbers) = ap (λ ns. number ∷ ns) (numbers_back seat aim numbers)

-- nothing but a checkout issues a number
line_numbers : (b : Book) (seat : ℕ) (call : Call) (reply : Reply) → reply ≡ answer_to b seat call
    → map (λ t. t.number) (issued_ticket seat call reply) ≡ issued_by reply
line_numbers b seat (Ask move) reply is =
    sym (ap issued_by is ∙ refused_none (tape_full b 1) _ (move_none b.session move))
line_numbers b seat (Checkout aim) reply is = numbers_back seat aim (issued_by reply)
line_numbers b seat (Spend number content) reply is =
    let t = ticket seat number content.aim in
    sym (ap issued_by is ∙ refused_none (not_out b t) _ (move_none b.session (Post content)))
line_numbers b seat (Discard number aim) reply is =
    let t = ticket seat number aim in sym (ap issued_by is ∙ refused_none (not_out b t) Discarded refl)

tape_numbers : (b c : Book) (tape : List Line) → Legal b tape c
    → map (λ t. t.number) (issued_tickets tape) ≡ issued_on tape
tape_numbers b c [] legal = refl
tape_numbers b c (l ∷ tape) legal =
    let line = line_numbers b l.seat l.call l.reply legal.0 in
    let later = tape_numbers (book_after b l.seat l.call l.reply) c tape legal.2 in
    map-append (λ (t : TicketOut). t.number) (issued_ticket l.seat l.call l.reply) (issued_tickets tape)
    ∙ (λ i. line i ++ later i)

pub same_numbers : (m : Session) (tape : List Line) (b : Book) → Legal (new_book m) tape b
    → map (λ t. t.number) (issued_tickets tape) ≡ issued_on tape
same_numbers m tape b legal = tape_numbers (new_book m) b tape legal
