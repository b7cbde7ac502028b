-- How a player answers a line.
use Rattle.std.proofs.Common.{◌≡◌, ℕ, ◌<◌, ◌≤◌, Bool, true, false, List, [], ◌∷◌, ◌++◌, length, Option, None, Some}
use Rattle.std.proofs.Common.{Ok, Err, Result, inl, inr, refl, sym, ap, ◌∙◌, subst, arith, append-nil, nat_le}
use Rattle.std.specs.Prelude.{◌≢◌, IsTrue, IfSome, IfErr, IsErrAnd, OnOk, codes}
use Rattle.std.specs.Fmt.{decimal}
use mathlib.Core.List.{append_assoc}
use Rattle.std.proofs.lemmas.Bool.{false≢true}
use Rattle.std.proofs.lemmas.Bool.Decides.{nat_tests}
use Rattle.reh_types.specs.declared.calls.Call.{Call}
use Rattle.reh_types.specs.declared.calls.Call.TheVariants as call
use Rattle.reh_types.specs.declared.limits.TheConstants.{MAX_HAND}
use Rattle.reh_types.specs.declared.moves.Reply.{Reply}
use Rattle.reh_types.specs.declared.moves.Reply.TheVariants.{Issued, Refused}
use Rattle.reh_types.specs.declared.names.Aim.{Aim}
use Rattle.reh_types.specs.declared.refusals.Refusal.TheVariants.{NotOut, NoMemory}
use Rattle.reh_model.specs.Book.{is_written}
use Rattle.reh_model.specs.Cluster.{Cluster}
use Rattle.reh_model.specs.Scan.{scan}
use Rattle.reh_desk.specs.Numbered.{Numbered}
use Rattle.reh_desk.specs.Seats.{SeatView, gained}
use Rattle.reh_play.specs.declared.answers.LineAnswer.{LineAnswer}
use Rattle.reh_play.specs.declared.answers.LineAnswer.TheVariants.{Said}
use Rattle.reh_commands.specs.declared.commands.Command.{Command}
use Rattle.reh_commands.specs.declared.commands.Command.TheVariants.{Checkout, Spend, Discard, Survey}
use Rattle.reh_commands.specs.declared.commands.LineFault.{LineFault}
use Rattle.reh_commands.specs.Answers.{asked, numbered}
use Rattle.reh_transcript.specs.Hand.{call_of, spend_of, discard_of, HandAfter}
use Rattle.reh_play.specs.Players.{Going, Player, Printing, setting_by, answer_text, answers_alone, IsOwn, Commands, IsAnswered, Takes, Begins, IsGivenBack, GivesBack}
use Rattle.reh_play.specs.Turns.{player, held, IsBegun, PrintsLine}

-- a reply that adds a line is not out of memory
pub real_if_written : (reply : Reply) → IsTrue (is_written reply) → reply ≢ Refused NoMemory
real_if_written reply written same = false≢true (ap is_written (sym same) ∙ written)

abbrev is_other : Reply → Bool
is_other (Refused NoMemory) = false
is_other reply = true

pub real_if_not_out : Refused NotOut ≢ Refused NoMemory
real_if_not_out same = false≢true (ap is_other (sym same))

-- a command whose call was answered
pub answers_call : {S : Type 0} (go : Going S) (scene : S → Option Cluster) (x : Player S) (command : Command)
    (k : Call) (reply : Reply) (y : Player S) → call_of command x.hand ≡ Some k
    → go x.counter x.seat.number k reply y.counter → y.seat ≡ gained x.seat k reply
    → HandAfter (scene x.counter) command reply x.hand y.hand → reply ≢ Refused NoMemory
    → IsAnswered go scene x (Ok command) (Said reply) y
answers_call go scene x command k reply y is goes seat hand real =
    subst (λ q. Commands go scene x command q (Said reply) y) (sym is)
    (reply, refl, record { goes = goes; seat = seat; hand = hand; answered = real })

-- a command that makes no call
pub answers_itself : {S : Type 0} (go : Going S) (scene : S → Option Cluster) (x : Player S) (command : Command)
    (answer : LineAnswer) → call_of command x.hand ≡ None → IsOwn (scene x.counter) command answer
    → IsAnswered go scene x (Ok command) answer x
answers_itself go scene x command answer none own =
    subst (λ q. Commands go scene x command q answer x) (sym none) (own, refl)

-- a command whose call found no memory
pub begins_call : {S : Type 0} (go : Going S) (scene : S → Option Cluster) (x : Player S) (command : Command)
    (k : Call) (y : Player S) → call_of command x.hand ≡ Some k
    → go x.counter x.seat.number k (Refused NoMemory) y.counter → y.seat ≡ gained x.seat k (Refused NoMemory)
    → y.hand ≡ x.hand → IsBegun go scene x (Ok command) y
begins_call go scene x command k y is goes seat hand = inr (inl (k, is, goes, seat, hand))

-- a line that was answered was begun
pub begins_answered : {S : Type 0} (go : Going S) (scene : S → Option Cluster) (x : Player S)
    (asked : Result Command LineFault) (answer : LineAnswer) (y : Player S) → IsAnswered go scene x asked answer y
    → IsBegun go scene x asked y
begins_answered go scene x asked answer y is = inl (answer, is)

-- so was a survey that wasn't made
pub begins_survey : {S : Type 0} (go : Going S) (scene : S → Option Cluster) (x : Player S)
    → IsBegun go scene x (Ok Survey) x
begins_survey go scene x = inr (inr (refl, refl))

-- a hand with no ticket that could not be scanned
pub without_ticket : {S : Type 0} (go : Going S) (scene : S → Option Cluster) (x : Player S)
    (asked : Result Command LineFault) (s : S) (seat : SeatView) (hand : List Numbered)
    → IsBegun go scene x asked (player s seat hand)
    → IsBegun go scene x asked (player s seat (hand ++ held None))
without_ticket go scene x asked s seat hand is =
    subst (λ h. IsBegun go scene x asked (player s seat h)) (sym (append-nil hand)) is

-- Checkouts

pub checks_out : (hand : List Numbered) (aim : Aim) → length hand < MAX_HAND
    → call_of (Checkout aim) hand ≡ Some (call.Checkout aim)
checks_out hand aim room =
    let full : nat_le MAX_HAND (length hand) ≡ false = grind (arith, nat_tests, room) in
    rw full refl

pub is_full : (hand : List Numbered) (aim : Aim) → MAX_HAND ≤ length hand → call_of (Checkout aim) hand ≡ None
is_full hand aim many =
    let full : nat_le MAX_HAND (length hand) ≡ true = grind (arith, nat_tests, many) in
    rw full refl

-- what is found with a ticket is the newest
pub answers_issued : {S : Type 0} (go : Going S) (scene : S → Option Cluster) (s : S) (old : SeatView)
    (hand : List Numbered) (u : S) (new : SeatView) (next : List Numbered) (aim : Aim) (ticket finding : Numbered)
    → length hand < MAX_HAND
    → go s old.number (call.Checkout aim) (Issued ticket.number) u
    → new ≡ gained old (call.Checkout aim) (Issued ticket.number) → ticket.content.aim ≡ aim
    → IfSome (scene s) (λ m. scan m aim ≡ Some ticket.content)
    → finding ≡ ticket → next ≡ hand ++ finding ∷ []
    → IsAnswered go scene (player s old hand) (Ok (Checkout aim)) (Said (Issued ticket.number))
    (player u new next)
answers_issued go scene s old hand u new next aim ticket finding room goes seat is found same after =
    answers_call go scene (player s old hand) (Checkout aim) (call.Checkout aim) (Issued ticket.number)
    (player u new next) (checks_out hand aim room) goes seat
    (ticket.content, is, found, after ∙ ap (λ (f : Numbered). hand ++ f ∷ []) same)
    (real_if_written (Issued ticket.number) refl)

-- a ticket that could not be scanned
pub begins_issued : {S : Type 0} (go : Going S) (scene : S → Option Cluster) (s : S) (old : SeatView)
    (hand : List Numbered) (u : S) (new : SeatView) (aim : Aim) (ticket : Numbered) → length hand < MAX_HAND
    → go s old.number (call.Checkout aim) (Issued ticket.number) u
    → new ≡ gained old (call.Checkout aim) (Issued ticket.number) → ticket.content.aim ≡ aim
    → IfSome (scene s) (λ m. scan m aim ≡ Some ticket.content)
    → IsBegun go scene (player s old hand) (Ok (Checkout aim)) (player u new (hand ++ held (Some ticket)))
begins_issued go scene s old hand u new aim ticket room goes seat is found =
    begins_answered go scene (player s old hand) (Ok (Checkout aim)) (Said (Issued ticket.number))
    (player u new (hand ++ ticket ∷ []))
    (answers_issued go scene s old hand u new
    (hand ++ ticket ∷ []) aim ticket ticket room goes seat is found refl refl)

-- The oldest finding

pub answers_empty : {S : Type 0} (go : Going S) (scene : S → Option Cluster) (s : S) (seat : SeatView)
    (hand next : List Numbered) (command : Command) (answer : LineAnswer) → hand ≡ [] → next ≡ []
    → call_of command [] ≡ None → IsOwn (scene s) command answer
    → IsAnswered go scene (player s seat hand) (Ok command) answer (player s seat next)
answers_empty go scene s seat hand next command answer was after none own =
    subst (λ h. IsAnswered go scene (player s seat h) (Ok command) answer (player s seat next)) (sym was)
    (subst (λ h. IsAnswered go scene (player s seat []) (Ok command) answer (player s seat h)) (sym after)
    (answers_itself go scene (player s seat []) command answer none own))

pub answers_spent : {S : Type 0} (go : Going S) (scene : S → Option Cluster) (s : S) (old : SeatView)
    (hand : List Numbered) (u : S) (new : SeatView) (finding : Numbered) (next : List Numbered) (reply : Reply)
    → hand ≡ finding ∷ next
    → go s old.number (spend_of finding) reply u → new ≡ gained old (spend_of finding) reply
    → IsTrue (is_written reply)
    → IsAnswered go scene (player s old hand) (Ok Spend) (Said reply) (player u new next)
answers_spent go scene s old hand u new finding next reply was goes seat written =
    subst (λ h. IsAnswered go scene (player s old h) (Ok Spend) (Said reply) (player u new next)) (sym was)
    (answers_call go scene (player s old (finding ∷ next)) Spend (spend_of finding) reply
    (player u new next) refl goes seat (rw written refl) (real_if_written reply written))

-- a spend of a ticket that is not out
pub answers_unspent : {S : Type 0} (go : Going S) (scene : S → Option Cluster) (s : S) (old : SeatView)
    (hand : List Numbered) (u : S) (new : SeatView) (finding : Numbered) (rest next : List Numbered)
    → hand ≡ finding ∷ rest → next ≡ finding ∷ rest
    → go s old.number (spend_of finding) (Refused NotOut) u → new ≡ gained old (spend_of finding) (Refused NotOut)
    → IsAnswered go scene (player s old hand) (Ok Spend) (Said (Refused NotOut)) (player u new next)
answers_unspent go scene s old hand u new finding rest next was after goes seat =
    subst (λ h. IsAnswered go scene (player s old h) (Ok Spend) (Said (Refused NotOut)) (player u new next)) (sym was)
    (answers_call go scene (player s old (finding ∷ rest)) Spend (spend_of finding) (Refused NotOut)
    (player u new next) refl goes seat after real_if_not_out)

-- a spend that found no memory
pub begins_spend : {S : Type 0} (go : Going S) (scene : S → Option Cluster) (s : S) (old : SeatView)
    (hand : List Numbered) (u : S) (new : SeatView) (finding : Numbered) (rest next : List Numbered)
    → hand ≡ finding ∷ rest → next ≡ finding ∷ rest
    → go s old.number (spend_of finding) (Refused NoMemory) u → new ≡ gained old (spend_of finding) (Refused NoMemory)
    → IsBegun go scene (player s old hand) (Ok Spend) (player u new (next ++ held None))
begins_spend go scene s old hand u new finding rest next was after goes seat =
    without_ticket go scene (player s old hand) (Ok Spend) u new next
    (subst (λ h. IsBegun go scene (player s old h) (Ok Spend) (player u new next)) (sym was)
    (begins_call go scene (player s old (finding ∷ rest)) Spend (spend_of finding)
    (player u new next) refl goes seat after))

pub answers_discarded : {S : Type 0} (go : Going S) (scene : S → Option Cluster) (s : S) (old : SeatView)
    (hand : List Numbered) (u : S) (new : SeatView) (finding : Numbered) (next : List Numbered) (reply : Reply)
    → hand ≡ finding ∷ next
    → go s old.number (discard_of finding) reply u → new ≡ gained old (discard_of finding) reply
    → reply ≢ Refused NoMemory
    → IsAnswered go scene (player s old hand) (Ok Discard) (Said reply) (player u new next)
answers_discarded go scene s old hand u new finding next reply was goes seat real =
    subst (λ h. IsAnswered go scene (player s old h) (Ok Discard) (Said reply) (player u new next)) (sym was)
    (answers_call go scene (player s old (finding ∷ next)) Discard (discard_of finding) reply
    (player u new next) refl goes seat refl real)

-- Hands that are given back

-- with one finding more after them
pub gives_more : {S : Type 0} (go : Going S) (s : S) (old : SeatView) (hand : List Numbered) (u : S) (mid : SeatView)
    (finding : Numbered) (reply : Reply) (w : S) (new : SeatView) → GivesBack go s old hand u mid → IsGivenBack reply
    → go u mid.number (discard_of finding) reply w → new ≡ gained mid (discard_of finding) reply
    → GivesBack go s old (hand ++ finding ∷ []) w new
gives_more go s old [] u mid finding reply w new given is goes seat = (
  reply,
  w,
  is,
  subst (λ v. go v old.number (discard_of finding) reply w) given.0
      (subst (λ (v : SeatView). go u v.number (discard_of finding) reply w) given.1 goes),
  (refl, seat ∙ ap (λ (v : SeatView). gained v (discard_of finding) reply) given.1),
)
gives_more go s old (f ∷ hand) u mid finding reply w new given is goes seat = (
  given.0,
  given.1,
  given.2,
  given.3,
  gives_more go given.1 (gained old (discard_of f) given.0) hand u mid finding reply w new given.4 is goes seat,
)

pub gives_none : {S : Type 0} (go : Going S) (s : S) (old : SeatView) (hand : List Numbered) (u : S) (new : SeatView)
    → GivesBack go s old hand u new → GivesBack go s old (hand ++ held None) u new
gives_none go s old hand u new given = subst (λ h. GivesBack go s old h u new) (sym (append-nil hand)) given

-- Lines

pub takes_line : {S : Type 0} (go : Going S) (scene : S → Option Cluster) (prints : Printing S) (names : List (List ℕ))
    (n : ℕ) (line text before : List ℕ) (x : Player S) (command : Result Command LineFault) (answer : LineAnswer)
    (y : Player S) → Some command ≡ asked names line → before ≡ []
    → PrintsLine go scene prints names y.counter n line answer before text
    → IsAnswered go scene x command answer y → Takes (setting_by go scene prints names) x n (asked names line) text y
takes_line go scene prints names n line text before x command answer y is none printed answered =
    let (more, whole, may) = printed x y command (sym is) refl answered in
    let same : text ≡ more = whole ∙ ap (λ t. t ++ more) none in
    subst (λ a. Takes (setting_by go scene prints names) x n a text y) is
    (answer, answered, subst (λ t. prints names x.counter n command answer y.counter t) (sym same) may)

pub begins_line : {S : Type 0} (go : Going S) (scene : S → Option Cluster) (names : List (List ℕ)) (line : List ℕ)
    (x : Player S) (command : Result Command LineFault) (y : Player S) → Some command ≡ asked names line
    → IsBegun go scene x command y → Begins go scene x (asked names line) y
begins_line go scene names line x command y is begun = subst (λ a. Begins go scene x a y) is begun

-- an answer alone is what may be printed
pub prints_alone : {S : Type 0} {T E : Type 0} (go : Going S) (scene : S → Option Cluster) (names : List (List ℕ))
    (after : S) (n : ℕ) (line : List ℕ) (answer : LineAnswer) (old new : List ℕ) (result : Result T E)
    → OnOk result (new ≡ old ++ numbered n (answer_text names (scene after) answer))
    → OnOk result (PrintsLine go scene (answers_alone scene) names after n line answer old new)
prints_alone go scene names after n line answer old new (Ok done) is =
    λ x y q asks there answered. (numbered n (answer_text names (scene after) answer), is, refl)
prints_alone go scene names after n line answer old new (Err want) is = is

-- a fault that is handed on
pub if_err : {T E : Type 0} (P : E → Type 0) (result : Result T E) (e : E) → IsErrAnd result (λ x. x ≡ e) → P e
    → IfErr result P
if_err P (Ok x) e is holds = absurd is
if_err P (Err x) e is holds = subst P (sym is) holds

-- an answer after its line's number
pub pushed : {T E : Type 0} (result : Result T E) (n : ℕ) (text mid new word : List ℕ)
    → mid ≡ text ++ (codes "line " ++ (decimal n ++ codes ": ")) → OnOk result (new ≡ mid ++ word)
    → OnOk result (new ≡ text ++ numbered n word)
pushed (Ok done) n text mid new word first more =
    more ∙ ap (λ v. v ++ word) first ∙ append_assoc text (codes "line " ++ (decimal n ++ codes ": ")) word
    ∙ ap (λ v. text ++ (codes "line " ++ v)) (append_assoc (decimal n) (codes ": ") word)
pushed (Err want) n text mid new word first more = more
