-- A play by one seat of a book is the transcript, and leaves the book where the transcript does.
use Rattle.std.proofs.Common.{◌≡◌, ℕ, ◌+◌, ◌⊎◌, Bool, true, false, List, [], ◌∷◌, ◌++◌, length, Option, None}
use Rattle.std.proofs.Common.{Some, Result, Ok, Err, inl, inr, refl, sym, ap, ◌∙◌, subst, is_none}
use Rattle.std.specs.Prelude.{◌≢◌, IsSome, map, codes}
use Rattle.std.specs.Io.KnownBytes.{Appends}
use Rattle.std.proofs.lemmas.Bool.{false≢true}
use Rattle.reh_types.specs.declared.calls.Call.{Call}
use Rattle.reh_types.specs.declared.calls.Call.TheVariants as call
use Rattle.reh_types.specs.declared.moves.Reply.{Reply}
use Rattle.reh_types.specs.declared.moves.Reply.TheVariants.{Done, Clock, Issued, Discarded, Refused}
use Rattle.reh_types.specs.declared.names.Aim.{Aim}
use Rattle.reh_types.specs.declared.refusals.Refusal.TheVariants.{NotOut, NoMemory}
use Rattle.reh_model.specs.Book.{Book, answer_to, book_after, or_refused, ticket_place, ticket, Answers}
use Rattle.reh_model.specs.Checks.{reason_if}
use Rattle.reh_model.specs.Cluster.{Cluster}
use Rattle.reh_model.specs.Session.{state_of}
use Rattle.reh_desk.specs.Kept.{Kept, Called}
use Rattle.reh_desk.specs.Numbered.{Numbered}
use Rattle.reh_desk.specs.Seats.{SeatView, gained}
use Rattle.reh_commands.specs.declared.commands.Command.{Command}
use Rattle.reh_commands.specs.declared.commands.Command.TheVariants as command
use Rattle.reh_commands.specs.declared.commands.LineFault.{LineFault}
use Rattle.reh_play.specs.declared.faults.PlayFault.{PlayFault}
use Rattle.reh_play.specs.declared.faults.PlayFault.TheVariants as fault
use Rattle.reh_commands.specs.Answers.{asked, reply_answer, own_answer, numbered}
use Rattle.reh_commands.specs.Texts.{survey_line_text, text_of}
use Rattle.reh_play.specs.declared.answers.LineAnswer.{LineAnswer}
use Rattle.reh_play.specs.declared.answers.LineAnswer.TheVariants as line_answer
use Rattle.reh_script.specs.BookPlays.{TranscribesAll, TranscribesPart, TranscribesUntil, TranscribesBetween}
use Rattle.reh_script.specs.BookPlays.{CallMayWant, MayWantMemory}
use Rattle.reh_script.specs.BookPlays.{LacksAnswer, IsTranscribed, Transcribes, at_book}
use Rattle.reh_transcript.specs.Hand.{call_of, discard_of, found, hand_after, hand_issued, HandAfter, HandIssued}
use Rattle.reh_lines.specs.Lines.{answered_lines}
use Rattle.reh_play.proofs.Sitting.{gained_number}
use Rattle.reh_play.specs.Players.{Player, seated, answer_text, IsOwn, Calls, Commands, Takes, TakesAll, Begins, GivesBack}
use Rattle.reh_play.specs.Plays.{stop_of, AnswersAll, StopsWriting, StopsWanting, StopsBetween, IsPlayed, Plays}
use Rattle.reh_transcript.specs.Transcript.{BookPlayer, answer_by, after_by, answer_of, after_command, transcript}
use Rattle.reh_transcript.specs.Transcript.{after_lines, given_back, end_of}

-- the state that a book shows
abbrev shown : Kept → Option Cluster
shown k = Some (state_of k.book.session)

-- a book's player, without its seat
abbrev pub player : Player Kept → BookPlayer
player x = record { book = x.counter.book; hand = x.hand }

-- From x to y this was printed, which the transcript gives, and the player is as there.
pub record Follows (x : Player Kept) (text : List ℕ) (y : Player Kept) (given : List ℕ)
    (p : BookPlayer) : Type 0 where
  pub text_is : text ≡ given
  pub player_is : player y ≡ p
  pub seat_is : y.seat.number ≡ x.seat.number

-- Calls

-- an answer that is not out of memory is the book's
pub answer_is : (b : Book) (seat : ℕ) (c : Call) (reply : Reply) (after : Book) → Answers b seat c reply after
    → reply ≢ Refused NoMemory → reply ≡ answer_to b seat c
answer_is b seat c reply after (inl is, then) real = is
answer_is b seat c reply after (inr want, then) real = absurd (real want.0)

-- a discard is never answered so
pub discard_is : (b : Book) (seat : ℕ) (finding : Numbered) (reply : Reply) (after : Book)
    → Answers b seat (discard_of finding) reply after
    → after ≡ book_after b seat (discard_of finding) (answer_to b seat (discard_of finding))
discard_is b seat finding reply after (inl is, then) = then ∙ ap (book_after b seat (discard_of finding)) is
discard_is b seat finding reply after (inr want, then) = absurd want.1

-- The hand

issued_is : (s : Cluster) (aim : Aim) (reply : Reply) (hand next : List Numbered)
    → HandIssued (Some s) aim reply hand next → next ≡ hand_issued s aim reply hand
issued_is s aim Done hand next is = is
issued_is s aim (Clock clock) hand next is = is
issued_is s aim (Issued number) hand next (content, same, sees, is) = is ∙ ap (λ x. hand ++ found number x) (sym sees)
issued_is s aim Discarded hand next is = is
issued_is s aim (Refused refusal) hand next is = is

pub hand_is : (s : Cluster) (c : Command) (reply : Reply) (hand next : List Numbered)
    → HandAfter (Some s) c reply hand next → next ≡ hand_after s c reply hand
hand_is s (command.Make move) reply hand next is = is
hand_is s (command.Checkout aim) reply hand next is = issued_is s aim reply hand next is
hand_is s command.Spend reply hand next is = is
hand_is s command.Discard reply hand next is = is
hand_is s command.Report reply hand next is = is
hand_is s command.Survey reply hand next is = is

-- Lines

-- a command's call
pub call_follows : (names : List (List ℕ)) (x : Player Kept) (c : Command) (k : Call) (reply : Reply)
    (y : Player Kept) → Calls Called shown x c k reply y
    → Follows x (reply_answer names reply) y (answer_by names x.seat.number (player x) c (Some k))
    (after_by x.seat.number (player x) c (Some k))
call_follows names x c k reply y calls =
    let is : reply ≡ answer_to x.counter.book x.seat.number k =
    answer_is x.counter.book x.seat.number k reply y.counter.book calls.goes.answers calls.answered in
    let left : y.counter.book ≡ book_after x.counter.book x.seat.number k (answer_to x.counter.book x.seat.number k) =
    calls.goes.answers.1 ∙ ap (book_after x.counter.book x.seat.number k) is in
    let held : y.hand ≡ hand_after (state_of x.counter.book.session) c
    (answer_to x.counter.book x.seat.number k) x.hand =
    hand_is (state_of x.counter.book.session) c reply x.hand y.hand calls.hand
    ∙ ap (λ r. hand_after (state_of x.counter.book.session) c r x.hand) is in
    record {
      text_is = ap (reply_answer names) is;
      player_is = λ i. record { book = left i; hand = held i };
      seat_is = ap (λ (v : SeatView). v.number) calls.seat ∙ gained_number x.seat k reply;
    }

-- the player's own answer
own_text : (names : List (List ℕ)) (s : Cluster) (c : Command) (answer : LineAnswer) → IsOwn (Some s) c answer
    → answer_text names (Some s) answer ≡ own_answer names (Some s) c
own_text names s (command.Make move) answer own = absurd own
own_text names s (command.Checkout aim) answer own = ap (answer_text names (Some s)) own
own_text names s command.Spend answer own = ap (answer_text names (Some s)) own
own_text names s command.Discard answer own = ap (answer_text names (Some s)) own
own_text names s command.Report answer own = ap (answer_text names (Some s)) own
own_text names s command.Survey (line_answer.Survey lines) own =
    ap (λ found. codes "survey\n" ++ text_of (map survey_line_text found)) own
own_text names s command.Survey (line_answer.Said reply) own = absurd own
own_text names s command.Survey (line_answer.Faulty fault) own = absurd own
own_text names s command.Survey line_answer.Report own = absurd own
own_text names s command.Survey line_answer.Hidden own = absurd own

-- a command
pub command_follows : (names : List (List ℕ)) (x : Player Kept) (c : Command) (made : Option Call) (answer : LineAnswer)
    (y : Player Kept) → Commands Called shown x c made answer y
    → Follows x (answer_text names (shown y.counter) answer) y (answer_by names x.seat.number (player x) c made)
    (after_by x.seat.number (player x) c made)
command_follows names x c None answer y (own, stays) = record {
  text_is = ap (λ (v : Player Kept). answer_text names (shown v.counter) answer) stays
      ∙ own_text names (state_of x.counter.book.session) c answer own;
  player_is = ap player stays;
  seat_is = ap (λ (v : Player Kept). v.seat.number) stays;
}
command_follows names x c (Some k) answer y (reply, said, calls) =
    let one = call_follows names x c k reply y calls in
    record {
      text_is = ap (answer_text names (shown y.counter)) said ∙ one.text_is;
      player_is = one.player_is;
      seat_is = one.seat_is;
    }

-- what a line asks for
pub line_follows : (names : List (List ℕ)) (x : Player Kept) (n : ℕ) (q : Option (Result Command LineFault))
    (text : List ℕ) (y : Player Kept) → Takes (at_book names) x n q text y
    → Follows x text y (answer_of names x.seat.number (player x) n q) (after_command x.seat.number (player x) q)
line_follows names x n None text y (is, stays) =
    record { text_is = is; player_is = ap player stays; seat_is = ap (λ (v : Player Kept). v.seat.number) stays }
line_follows names x n (Some (Err reason)) text y (answer, (is, stays), printed) = record {
  text_is = printed ∙ ap (λ a. numbered n (answer_text names (shown y.counter) a)) is;
  player_is = ap player stays;
  seat_is = ap (λ (v : Player Kept). v.seat.number) stays;
}
line_follows names x n (Some (Ok c)) text y (answer, made, printed) =
    let one = command_follows names x c (call_of c x.hand) answer y made in
    record { text_is = printed ∙ ap (numbered n) one.text_is; player_is = one.player_is; seat_is = one.seat_is }

-- all lines
pub lines_follow : (names : List (List ℕ)) (x : Player Kept) (n : ℕ) (lines : List (List ℕ)) (text : List ℕ)
    (y : Player Kept) → TakesAll (at_book names) x n lines text y
    → Follows x text y (transcript names x.seat.number (player x) n lines)
    (after_lines names x.seat.number (player x) lines)
lines_follow names x n [] text y (is, stays) =
    record { text_is = is; player_is = ap player stays; seat_is = ap (λ (v : Player Kept). v.seat.number) stays }
lines_follow names x n (line ∷ lines) text y (first, later, mid, is, takes, rest) =
    let one = line_follows names x n (asked names line) first mid takes in
    let all = lines_follow names mid (n + 1) lines later y rest in
    record {
      text_is =
          is ∙ ap (λ t. first ++ t) all.text_is
          ∙ (λ i. one.text_is i ++ transcript names (one.seat_is i) (one.player_is i) (n + 1) lines);
      player_is = all.player_is ∙ (λ i. after_lines names (one.seat_is i) (one.player_is i) lines);
      seat_is = all.seat_is ∙ one.seat_is;
    }

-- a hand that is given back
pub gives_back : (k : Kept) (seat : SeatView) (hand : List Numbered) (last : Kept) (end : SeatView)
    → GivesBack Called k seat hand last end → last.book ≡ given_back seat.number k.book hand
gives_back k seat [] last end (stays, same) = ap (λ (v : Kept). v.book) stays
gives_back k seat (finding ∷ hand) last end (reply, mid, is, called, rest) =
    let one = discard_is k.book seat.number finding reply mid.book called.answers in
    gives_back mid (gained seat (discard_of finding) reply) hand last end rest
    ∙ (λ i. given_back (gained_number seat (discard_of finding) reply i) (one i) hand)

-- Ends

-- where a play ends that led from x to y
ends_at : (x : Player Kept) (text : List ℕ) (y : Player Kept) (given : List ℕ) (p : BookPlayer) (z : Player Kept)
    → Follows x text y given p → GivesBack Called y.counter y.seat y.hand z.counter z.seat
    → z.counter.book ≡ end_of x.seat.number p
ends_at x text y given p z follows back =
    gives_back y.counter y.seat y.hand z.counter z.seat back ∙ (λ i. end_of (follows.seat_is i) (follows.player_is i))

pub transcribes_all : (names : List (List ℕ)) (lines : List (List ℕ)) (x z : Player Kept) (old new : Option (List ℕ))
    → AnswersAll (at_book names) lines x z old new
    → TranscribesAll names x.seat.number lines (player x) z.counter.book old new
transcribes_all names lines x z old new all =
    let follows = lines_follow names x 1 lines all.text all.y all.taken in
    record {
      taken = ends_at x all.text all.y _ _ z follows all.ends;
      written = subst (λ t. Appends old new t) follows.text_is all.written;
    }

pub transcribes_part : (names : List (List ℕ)) (lines : List (List ℕ)) (x z : Player Kept) (old new : Option (List ℕ))
    → StopsWriting (at_book names) lines x z old new
    → TranscribesPart names x.seat.number lines (player x) z.counter.book old new
transcribes_part names lines x z old new stops =
    let before = lines_follow names x 1 stops.done stops.text stops.mid stops.before in
    let line =
    line_follows names stops.mid (length stops.done + 1) (asked names stops.line)
    (stops.part ++ stops.lost) stops.y stops.taken in
    record {
      done = stops.done;
      line = stops.line;
      rest = stops.rest;
      part = stops.part;
      lost = stops.lost;
      split = stops.split;
      answer = line.text_is
          ∙ (λ i. answer_of names (before.seat_is i) (before.player_is i) (length stops.done + 1)
          (asked names stops.line));
      is_lost = stops.is_lost;
      taken = ends_at stops.mid (stops.part ++ stops.lost) stops.y _ _ z line stops.ends
          ∙ (λ i. end_of (before.seat_is i)
          (after_command (before.seat_is i) (before.player_is i) (asked names stops.line)));
      written = subst (λ t. Appends old new (t ++ stops.part)) before.text_is stops.written;
    }

-- Out of memory

abbrev is_other : Reply → Bool
is_other (Refused NoMemory) = false
is_other reply = true

-- a book never answers a discard so
discard_has_memory : (b : Book) (seat number : ℕ) (aim : Aim)
    → Refused NoMemory ≡ answer_to b seat (call.Discard number aim) → ⊥
discard_has_memory b seat number aim is =
    let out : Bool = is_none (ticket_place (ticket seat number aim) b.out) in
    elim out as (λ t. Refused NoMemory ≡ or_refused (reason_if t NotOut) Discarded → ⊥) [
      | true ↦ λ same. false≢true (ap is_other same)
      | false ↦ λ same. false≢true (ap is_other same)
    ] is

-- where the book itself wants memory for a call, the hand stays
hand_stays : (s : Cluster) (b : Book) (seat : ℕ) (c : Command) (hand : List Numbered) (k : Call)
    → call_of c hand ≡ Some k → Refused NoMemory ≡ answer_to b seat k → hand_after s c (Refused NoMemory) hand ≡ hand
hand_stays s b seat (command.Make move) hand k is wants = refl
hand_stays s b seat (command.Checkout aim) hand k is wants = refl
hand_stays s b seat command.Spend hand k is wants = refl
hand_stays s b seat command.Discard [] k is wants = refl
hand_stays s b seat command.Discard (finding ∷ hand) k is wants =
    let made : k ≡ discard_of finding = cc in
    absurd (discard_has_memory b seat finding.number finding.content.aim
    (subst (λ v. Refused NoMemory ≡ answer_to b seat v) made wants))
hand_stays s b seat command.Report hand k is wants = refl
hand_stays s b seat command.Survey hand k is wants = refl

-- a call that wants memory leaves the book, and is the book's own answer or stands in its place
wants_or : (p : BookPlayer) (seat : ℕ) (c : Command) (made : Option Call) (k : Call) (after : Book)
    → call_of c p.hand ≡ Some k → made ≡ Some k → Answers p.book seat k (Refused NoMemory) after
    → (p ≡ after_by seat p c made) ⊎ CallMayWant seat p made
wants_or p seat c made k after is same (inl own, then) =
    let held : p.hand ≡ hand_after (state_of p.book.session) c (Refused NoMemory) p.hand =
    sym (hand_stays (state_of p.book.session) p.book seat c p.hand k is own) in
    let stays : p ≡ after_by seat p c (Some k) =
    (λ i. record { book = p.book; hand = held i })
    ∙ ap (λ reply. record
    { book = book_after p.book seat k reply; hand = hand_after (state_of p.book.session) c reply p.hand }) own in
    inl (subst (λ q. p ≡ after_by seat p c q) (sym same) stays)
wants_or p seat c made k after is same (inr want, then) = inr (subst (λ q. CallMayWant seat p q) (sym same) want.1)

-- a line that was begun
lacks : (names : List (List ℕ)) (x : Player Kept) (q : Option (Result Command LineFault)) (y z : Player Kept)
    → Begins Called shown x q y → GivesBack Called y.counter y.seat y.hand z.counter z.seat
    → IsSome q
    × ((z.counter.book ≡ end_of x.seat.number (after_command x.seat.number (player x) q))
    ⊎ ((z.counter.book ≡ end_of x.seat.number (player x)) × MayWantMemory x.seat.number (player x) q))
lacks names x None y z begun back = absurd begun
lacks names x (Some q) y z (inl (answer, made)) back =
    let text : List ℕ = numbered 1 (answer_text names (shown y.counter) answer) in
    (refl, inl (ends_at x text y _ _ z (line_follows names x 1 (Some q) text y (answer, made, refl)) back))
lacks names x (Some (Err reason)) y z (inr (inl wants)) back = absurd wants
lacks names x (Some (Ok c)) y z (inr (inl (k, is, called, seat, hand))) back =
    let left : y.counter.book ≡ x.counter.book = called.answers.1 in
    let there : z.counter.book ≡ end_of x.seat.number (player x) =
    gives_back y.counter y.seat y.hand z.counter z.seat back
    ∙ (λ i. given_back ((seat i).number) (left i) (hand i)) in
    elim (wants_or (player x) x.seat.number c (call_of c x.hand) k y.counter.book is is called.answers) [
      | inl own ↦ (refl, inl (there ∙ ap (end_of x.seat.number) own))
      | inr want ↦ (refl, inr (there, want))
    ]
lacks names x (Some q) y z (inr (inr (is, stays))) back =
    let there : z.counter.book ≡ end_of x.seat.number (player x) =
    gives_back y.counter y.seat y.hand z.counter z.seat back
    ∙ (λ i. given_back ((stays i).seat.number) ((stays i).counter.book) ((stays i).hand)) in (
      refl,
      inl (there ∙ ap (λ (r : Result Command LineFault).
          end_of x.seat.number (after_command x.seat.number (player x) (Some r))) (sym is)),
    )

pub transcribes_until : (names : List (List ℕ)) (lines : List (List ℕ)) (x z : Player Kept)
    (old new : Option (List ℕ)) → StopsWanting (at_book names) lines x z old new
    → TranscribesUntil names x.seat.number lines (player x) z.counter.book old new
transcribes_until names lines x z old new stops =
    let before = lines_follow names x 1 stops.done stops.text stops.mid stops.before in
    let here : LacksAnswer names stops.mid.seat.number (player stops.mid) stops.line z.counter.book =
    lacks names stops.mid (asked names stops.line) stops.y z stops.begun stops.ends in
    record {
      done = stops.done;
      line = stops.line;
      rest = stops.rest;
      split = stops.split;
      lacks = subst (λ p. LacksAnswer names x.seat.number p stops.line z.counter.book) before.player_is
          (subst (λ seat. LacksAnswer names seat (player stops.mid) stops.line z.counter.book) before.seat_is here);
      written = subst (λ t. Appends old new t) before.text_is stops.written;
    }

pub transcribes_between : (names : List (List ℕ)) (lines : List (List ℕ)) (x z : Player Kept)
    (old new : Option (List ℕ)) → StopsBetween (at_book names) lines x z old new
    → TranscribesBetween names x.seat.number lines (player x) z.counter.book old new
transcribes_between names lines x z old new stops =
    let follows = lines_follow names x 1 stops.done stops.text stops.y stops.taken in
    record {
      done = stops.done;
      rest = stops.rest;
      split = stops.split;
      taken = ends_at x stops.text stops.y _ _ z follows stops.ends;
      written = subst (λ t. Appends old new t) follows.text_is stops.written;
    }

-- Plays

-- a play of lines at a book
pub played_book : (names : List (List ℕ)) (lines : List (List ℕ)) (stop : Option PlayFault)
    (result : Result (Unit {0}) PlayFault) (x z : Player Kept) (old new : Option (List ℕ))
    → IsPlayed (at_book names) lines stop result x z old new
    → IsTranscribed names x.seat.number lines stop result (player x) z.counter.book old new
unfolding transcribes_until
played_book names lines stop (Ok done) x z old new (is, all) = (is, transcribes_all names lines x z old new all)
played_book names lines stop (Err fault.ReadFault) x z old new (is, all) =
    (is, transcribes_all names lines x z old new all)
played_book names lines stop (Err fault.TooLong) x z old new (is, all) =
    (is, transcribes_all names lines x z old new all)
played_book names lines stop (Err fault.WriteFault) x z old new stops = transcribes_part names lines x z old new stops
played_book names lines stop (Err fault.NoMemory) x z old new stops = transcribes_until names lines x z old new stops
played_book names lines stop (Err fault.NoThread) x z old new (stops, is) =
    (transcribes_until names lines x z old new stops, is)

-- a play of a text at a book
pub plays_book : (names : List (List ℕ)) (result : Result (Unit {0}) PlayFault) (failed : Bool)
    (left_old left_new : Option (List ℕ)) (counter : Kept) (seat : SeatView) (last : Kept) (end : SeatView)
    (old new : Option (List ℕ))
    → Plays (at_book names) result failed left_old left_new (seated counter seat) (seated last end) old new
    → Transcribes names seat.number result failed left_old left_new counter.book last.book old new
plays_book names result failed left_old left_new counter seat last end old new plays = record {
  text = plays.text;
  given = plays.given;
  played = elim plays.played [
    | inl played ↦
        inl
        (played_book names (answered_lines failed plays.text) (stop_of failed plays.text) result
        (seated counter seat) (seated last end) old new played)
    | inr breaks ↦
        inr (
          breaks.0,
          breaks.1,
          transcribes_between names (answered_lines failed plays.text)
              (seated counter seat) (seated last end) old new breaks.2,
        )
  ];
}
