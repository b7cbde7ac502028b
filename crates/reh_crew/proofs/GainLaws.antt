-- On what seats gain.
use Rattle.std.proofs.Common.{◌≡◌, ◌∙◌, ◌+◌, ◌++◌, ◌∷◌, [], ℕ, List, Bool, true, false, ap, append-nil, append_assoc}
use Rattle.std.proofs.Common.{drop, get_or, inl, inr, length, refl, subst, sym, ◌<◌, ◌≤◌}
use Rattle.std.specs.Prelude.{◌%◌, ◌==◌, if◌then◌else◌}
use Rattle.std.proofs.lemmas.Bool.{false≢true}
use Rattle.std.proofs.lemmas.List.{drop_all, drop_more}
use Rattle.reh_types.specs.declared.calls.Call.{Call}
use Rattle.reh_types.specs.declared.calls.Call.TheVariants.{Checkout, Spend, Discard}
use Rattle.reh_types.specs.declared.calls.OwnLine.{OwnLine}
use Rattle.reh_types.specs.declared.moves.Reply.{Reply}
use Rattle.reh_types.specs.declared.moves.Reply.TheVariants.{Issued, Discarded, Refused}
use Rattle.reh_types.specs.declared.names.Aim.{Aim}
use Rattle.reh_types.specs.declared.refusals.Refusal.{Refusal}
use Rattle.reh_model.specs.Book.{is_written}
use Rattle.reh_desk.specs.Numbered.{Numbered}
use Rattle.reh_desk.specs.Replies.{refused_by}
use Rattle.reh_desk.specs.Seats.{SeatView, gained, own_line}
use Rattle.reh_desk.specs.Unspent.{number_of, aim_of}
use Rattle.reh_desk.specs.declared.books.SpendCause.{SpendCause}
use Rattle.reh_desk.specs.declared.books.SpendCause.TheVariants as cause
use Rattle.reh_desk.specs.declared.tickets.Unspent.{Unspent}
use Rattle.reh_desk.specs.declared.tickets.Unspent.TheVariants.{Unscanned, Scanned}
use Rattle.reh_crew.specs.Gained.{EndsTicket, Closes, share_from, share_of, with_line}
use Rattle.reh_crew.specs.Gained.{Adds, Attended, Strayed, GainedGroups, Gained}
use Rattle.reh_crew.specs.Workers.{Scanning, IsScanOf, Going, Seated, Calls, GivesBack, Spends, Finishes, Attends, Works}

-- One aim

written_line : (b : Bool) (s : SeatView) (call : Call) (reply : Reply) → b ≡ true
    → (if b then with_line s call reply else s) ≡ with_line s call reply
written_line true s call reply is = refl
written_line false s call reply is = absurd (false≢true is)

-- a call that ended a ticket
pub closes : (k : ℕ) (a : Aim) (old new : SeatView) (call : Call) (reply : Reply) → EndsTicket k a call
    → is_written reply ≡ true → new ≡ gained old call reply → Closes k a old new
closes k a old new call reply ends written seat = record {
  call = call;
  reply = reply;
  ends = ends;
  seat = seat ∙ written_line (is_written reply) old call reply written;
}

-- a refused checkout, whether it added a line or none
refused_either : (b : Bool) (a : Aim) (old new : SeatView) (refusal : Refusal)
    → new ≡ (if b then with_line old (Checkout a) (Refused refusal) else old) → Attended a old new
refused_either true a old new refusal seat = record {
  lines = own_line (Checkout a) (Refused refusal) ∷ [];
  group = inr (inl (refusal, refl));
  adds = record { number = ap (λ (s : SeatView). s.number) seat; lines = ap (λ (s : SeatView). s.lines) seat };
}
refused_either false a old new refusal seat = record {
  lines = [];
  group = inl refl;
  adds = record {
    number = ap (λ (s : SeatView). s.number) seat;
    lines = ap (λ (s : SeatView). s.lines) seat ∙ sym (append-nil old.lines);
  };
}

pub attended_refused : (a : Aim) (old new : SeatView) (refusal : Refusal)
    → new ≡ gained old (Checkout a) (Refused refusal) → Attended a old new
attended_refused a old new refusal seat = refused_either (is_written (Refused refusal)) a old new refusal seat

-- an issued checkout, and the end of its ticket
pub attended_ended : (a b : Aim) (k n : ℕ) (old between new : SeatView) → b ≡ a → n ≡ k
    → between ≡ gained old (Checkout a) (Issued k) → Closes n b between new → Attended a old new
attended_ended a b k n old between new aim number seat closed = record {
  lines = own_line (Checkout a) (Issued k) ∷ own_line closed.call closed.reply ∷ [];
  group = inr (inr (k, closed.call, closed.reply, rw (aim, number) at closed.ends, refl));
  adds = record {
    number = ap (λ (s : SeatView). s.number) closed.seat ∙ ap (λ (s : SeatView). s.number) seat;
    lines = ap (λ (s : SeatView). s.lines) closed.seat
        ∙ ap (λ (s : SeatView). s.lines ++ own_line closed.call closed.reply ∷ []) seat
        ∙ append_assoc old.lines (own_line (Checkout a) (Issued k) ∷ []) (own_line closed.call closed.reply ∷ []);
  };
}

-- an issued checkout, and no more
pub strayed : (a : Aim) (k : ℕ) (old between new : SeatView) → between ≡ gained old (Checkout a) (Issued k)
    → new ≡ between → Strayed a old new
strayed a k old between new seat same = record {
  lines = own_line (Checkout a) (Issued k) ∷ [];
  opened = (k, refl);
  adds = record {
    number = ap (λ (s : SeatView). s.number) (same ∙ seat);
    lines = ap (λ (s : SeatView). s.lines) (same ∙ seat);
  };
}

-- What a worker does

given_back : {S : Type 0} (go : Going S) (unspent : Unspent) (x y : Seated S) → GivesBack go unspent true x y
    → Closes (number_of unspent) (aim_of unspent) x.seat y.seat
given_back go unspent x y given =
    closes (number_of unspent) (aim_of unspent) x.seat y.seat (Discard (number_of unspent) (aim_of unspent)) Discarded
    (refl, refl) refl given.seat

stayed : {S : Type 0} (go : Going S) (finding : Numbered) (cause : SpendCause) (x y : Seated S)
    → Calls go x (Spend finding.number finding.content) (refused_by cause) y → y.seat ≡ x.seat
stayed go finding cause.NotOut x y calls = calls.seat
stayed go finding cause.NoMemory x y calls = calls.seat

spent_closes : {S : Type 0} (go : Going S) (finding : Numbered) (x y : Seated S) → Spends go finding true x y
    → Closes finding.number finding.content.aim x.seat y.seat
spent_closes go finding x y (inl (reply, written, goes_on, calls)) =
    closes finding.number finding.content.aim x.seat y.seat (Spend finding.number finding.content) reply
    (refl, refl) written calls.seat
spent_closes go finding x y (inr (cause, mid, calls, given)) =
    subst (λ (s : SeatView). Closes finding.number finding.content.aim s y.seat)
    (stayed go finding cause x mid calls) (given_back go (Scanned finding) mid y given)

spent_stays : {S : Type 0} (go : Going S) (finding : Numbered) (x y : Seated S) → Spends go finding false x y
    → y.seat ≡ x.seat
spent_stays go finding x y (inl (reply, written, goes_on, calls)) = absurd (false≢true goes_on)
spent_stays go finding x y (inr (cause, mid, calls, given)) = given.seat ∙ stayed go finding cause x mid calls

finished_closes : {S : Type 0} (go : Going S) (ticket : Numbered) (found : Unspent) (x y : Seated S)
    → IsScanOf ticket found → Finishes go found true x y → Closes ticket.number ticket.content.aim x.seat y.seat
finished_closes go ticket (Unscanned back) x y is finished =
    subst (λ (t : Numbered). Closes t.number t.content.aim x.seat y.seat) is
    (given_back go (Unscanned back) x y finished)
finished_closes go ticket (Scanned finding) x y is finished =
    subst (λ (t : Numbered). Closes t.number t.content.aim x.seat y.seat) is (spent_closes go finding x y finished)

finished_stays : {S : Type 0} (go : Going S) (found : Unspent) (x y : Seated S) → Finishes go found false x y
    → y.seat ≡ x.seat
finished_stays go (Unscanned back) x y finished = finished.seat
finished_stays go (Scanned finding) x y finished = spent_stays go finding x y finished

attended_of : {S : Type 0} (go : Going S) (scans : Scanning) (a : Aim) (x y : Seated S) → Attends go scans a true x y
    → Attended a x.seat y.seat
attended_of go scans a x y (inl (refusal, goes_on, calls)) = attended_refused a x.seat y.seat refusal calls.seat
attended_of go scans a x y (inr serves) =
    attended_ended a serves.ticket.content.aim serves.ticket.number serves.ticket.number x.seat serves.mid.seat y.seat
    serves.aim refl serves.issued.seat
    (finished_closes go serves.ticket serves.found serves.mid y serves.is_scan serves.finished)

strayed_of : {S : Type 0} (go : Going S) (scans : Scanning) (a : Aim) (x y : Seated S) → Attends go scans a false x y
    → Strayed a x.seat y.seat
strayed_of go scans a x y (inl (refusal, goes_on, calls)) = absurd (false≢true goes_on)
strayed_of go scans a x y (inr serves) =
    strayed a serves.ticket.number x.seat serves.mid.seat y.seat serves.issued.seat
    (finished_stays go serves.found serves.mid y serves.finished)

-- Several aims

adds_more : (s t u : SeatView) (xs ys : List OwnLine) → Adds s t xs → Adds t u ys → Adds s u (xs ++ ys)
adds_more s t u xs ys first next = record {
  number = next.number ∙ first.number;
  lines = next.lines ∙ ap (λ ls. ls ++ ys) first.lines ∙ append_assoc s.lines xs ys;
}

gained_none : (s : SeatView) → GainedGroups [] s s
gained_none s =
    record { lines = []; groups = refl; adds = record { number = refl; lines = sym (append-nil s.lines) } }

groups_after : (a : Aim) (aims : List Aim) (s t u : SeatView) → Attended a s t → GainedGroups aims t u
    → GainedGroups (a ∷ aims) s u
groups_after a aims s t u first rest = record {
  lines = first.lines ++ rest.lines;
  groups = (first.lines, rest.lines, refl, first.group, rest.groups);
  adds = adds_more s t u first.lines rest.lines first.adds rest.adds;
}

gained_after : (a : Aim) (aims : List Aim) (s t u : SeatView) → Attended a s t → Gained aims t u → Gained (a ∷ aims) s u
gained_after a aims s t u first (inl groups) = inl (groups_after a aims s t u first groups)
gained_after a aims s t u first (inr some) = inr (record {
  done = a ∷ some.done;
  aim = some.aim;
  rest = some.rest;
  between = some.between;
  split = ap (λ (l : List Aim). a ∷ l) some.split;
  groups = groups_after a some.done s t some.between first some.groups;
  last = some.last;
})

-- what a worker's seat gains
pub gained_of : {S : Type 0} (go : Going S) (scans : Scanning) (aims : List Aim) (x y : Seated S)
    → Works go scans aims x y → Gained aims x.seat y.seat
gained_of {S} go scans [] x y is =
    inl (subst (GainedGroups [] x.seat) (sym (ap (λ (s : Seated S). s.seat) is)) (gained_none x.seat))
gained_of {S} go scans (a ∷ aims) x y (inl last) = inr (record {
  done = [];
  aim = a;
  rest = aims;
  between = x.seat;
  split = refl;
  groups = gained_none x.seat;
  last = strayed_of go scans a x y last;
})
gained_of {S} go scans (a ∷ aims) x y (inr (mid, first, rest)) =
    gained_after a aims x.seat mid.seat y.seat (attended_of go scans a x mid first) (gained_of go scans aims mid y rest)

-- A worker on its way

-- what it does with the aims at the places from i on completes its work
pub record IsOn {S : Type 0} (go : Going S) (scans : Scanning) (n k : ℕ) (aims : List Aim) (i : ℕ) (old now : Seated S)
    : Type 0 where
  pub rest : (y : Seated S) → Works go scans (share_from i n k (drop i aims)) now y → Works go scans (share_of n k aims) old y

pub is_on_first : {S : Type 0} (go : Going S) (scans : Scanning) (n k : ℕ) (aims : List Aim) (x : Seated S)
    → IsOn go scans n k aims 0 x x
is_on_first go scans n k aims x = record { rest = λ y works. works }

left_more : {S : Type 0} (go : Going S) (scans : Scanning) (n k : ℕ) (aims : List Aim) (i : ℕ) (a : Aim) (x y : Seated S)
    → i < length aims → a ≡ get_or aims i a → Works go scans (share_from i n k (a ∷ drop (i + 1) aims)) x y
    → Works go scans (share_from i n k (drop i aims)) x y
left_more go scans n k aims i a x y within is works =
    subst (λ (left : List Aim). Works go scans (share_from i n k left) x y)
    (sym (drop_more aims i a within ∙ ap (λ (x : Aim). x ∷ drop (i + 1) aims) (sym is))) works

-- an aim of another worker's
pub is_on_other : {S : Type 0} (go : Going S) (scans : Scanning) (n k : ℕ) (aims : List Aim) (i : ℕ) (a : Aim)
    (old now : Seated S) → i < length aims → a ≡ get_or aims i a → ((i % n) == k) ≡ false
    → IsOn go scans n k aims i old now → IsOn go scans n k aims (i + 1) old now
is_on_other go scans n k aims i a old now within is other on = record {
  rest = λ y works. on.rest y (left_more go scans n k aims i a now y within is (rw other works));
}

own_more : {S : Type 0} (go : Going S) (scans : Scanning) (n k : ℕ) (aims : List Aim) (i : ℕ) (a : Aim) (x y : Seated S)
    → i < length aims → a ≡ get_or aims i a → ((i % n) == k) ≡ true
    → Works go scans (a ∷ share_from (i + 1) n k (drop (i + 1) aims)) x y
    → Works go scans (share_from i n k (drop i aims)) x y
own_more go scans n k aims i a x y within is own works =
    left_more go scans n k aims i a x y within is (rw own works)

-- an aim of its own, after which it goes on
pub is_on_own : {S : Type 0} (go : Going S) (scans : Scanning) (n k : ℕ) (aims : List Aim) (i : ℕ) (a : Aim)
    (goes_on : Bool) (old now next : Seated S) → i < length aims → a ≡ get_or aims i a → ((i % n) == k) ≡ true
    → IsOn go scans n k aims i old now → goes_on ≡ true → Attends go scans a goes_on now next
    → IsOn go scans n k aims (i + 1) old next
is_on_own go scans n k aims i a goes_on old now next within is own on true_is attends =
    let first : Attends go scans a true now next =
    subst (λ (b : Bool). Attends go scans a b now next) true_is attends in
    record { rest = λ y works. on.rest y (own_more go scans n k aims i a now y within is own (inr (next, first, works))) }

-- or does not
pub works_some : {S : Type 0} (go : Going S) (scans : Scanning) (n k : ℕ) (aims : List Aim) (i : ℕ) (a : Aim)
    (goes_on : Bool) (old now next : Seated S) → i < length aims → a ≡ get_or aims i a → ((i % n) == k) ≡ true
    → IsOn go scans n k aims i old now → goes_on ≡ false → Attends go scans a goes_on now next
    → Works go scans (share_of n k aims) old next
works_some go scans n k aims i a goes_on old now next within is own on false_is attends =
    let last : Attends go scans a false now next =
    subst (λ (b : Bool). Attends go scans a b now next) false_is attends in
    on.rest next (own_more go scans n k aims i a now next within is own (inl last))

-- none is left
pub works_all : {S : Type 0} (go : Going S) (scans : Scanning) (n k : ℕ) (aims : List Aim) (i : ℕ) (old now : Seated S)
    → length aims ≤ i → IsOn go scans n k aims i old now → Works go scans (share_of n k aims) old now
works_all go scans n k aims i old now past on =
    on.rest now (subst (λ (left : List Aim). Works go scans (share_from i n k left) now now) (sym (drop_all i aims past))
    refl)
