-- A play at a counter that shows no state, told of its seat alone.
use Rattle.std.proofs.Common.{◌≡◌, ℕ, ◌+◌, Bool, true, cond, List, [], ◌∷◌, ◌++◌, length, refl, ap, ◌∙◌, subst, inl, inr}
use Rattle.std.proofs.Common.{Option, None, Some, Result, Ok, Err, false}
use Rattle.std.specs.Prelude.{IsErrAnd}
use Rattle.std.proofs.KnownBytes.{Keeps-refl}
use Rattle.reh_types.specs.declared.calls.Call.{Call}
use Rattle.reh_types.specs.declared.moves.Reply.{Reply}
use Rattle.reh_model.specs.Book.{is_written}
use Rattle.reh_model.specs.Cluster.{Cluster}
use Rattle.reh_desk.specs.Numbered.{Numbered}
use Rattle.reh_desk.specs.Seats.{SeatView, gained}
use Rattle.reh_commands.specs.declared.commands.Command.{Command}
use Rattle.reh_commands.specs.declared.commands.LineFault.{LineFault}
use Rattle.reh_play.specs.declared.faults.PlayFault.{PlayFault}
use Rattle.reh_play.specs.declared.faults.PlayFault.TheVariants as fault
use Rattle.reh_commands.specs.Answers.{asked, numbered}
use Rattle.reh_play.specs.declared.answers.LineAnswer.{LineAnswer}
use Rattle.reh_play.specs.DeskPlays.{anyhow, unseen, at_desk, sitting, PlaysAtDesk}
use Rattle.reh_transcript.specs.Hand.{call_of, discard_of, HandAfter}
use Rattle.reh_lines.specs.Lines.{answered_lines}
use Rattle.reh_play.specs.Players.{Going, Player, Setting, seated, answer_text, answers_alone, IsOwn, Calls, Commands}
use Rattle.reh_play.specs.Players.{IsAnswered, Takes, TakesAll, Wants, Begins, GivesBack}
use Rattle.reh_play.specs.Plays.{stop_of, AnswersAll, StopsWriting, StopsWanting, IsPlayed}

-- a player without its counter
abbrev pub apart : {S : Type 0} → Player S → Player (Unit {0})
apart {S} x = record { counter = tt; seat = x.seat; hand = x.hand }

-- The counter shows no state, and answers alone are printed.
pub record ShowsNone {S : Type 0} (place : Setting S) : Type 0 where
  pub none : (counter : S) → place.scene counter ≡ None
  pub alone : (names : List (List ℕ)) (before : S) (n : ℕ) (q : Result Command LineFault) (answer : LineAnswer)
      (after : S) (text : List ℕ)
      → place.prints names before n q answer after text → answers_alone place.scene names before n q answer after text

-- Without the counter

calls_apart : {S : Type 0} (place : Setting S) → ShowsNone place → (x : Player S) (c : Command) (k : Call)
    (reply : Reply) (y : Player S) → Calls place.go place.scene x c k reply y
    → Calls anyhow unseen (apart x) c k reply (apart y)
calls_apart place shows x c k reply y calls = record {
  goes = tt;
  seat = calls.seat;
  hand = subst (λ scene. HandAfter scene c reply x.hand y.hand) (shows.none x.counter) calls.hand;
  answered = calls.answered;
}

commands_apart : {S : Type 0} (place : Setting S) → ShowsNone place → (x : Player S) (c : Command)
    (made : Option Call) (answer : LineAnswer) (y : Player S) → Commands place.go place.scene x c made answer y
    → Commands anyhow unseen (apart x) c made answer (apart y)
commands_apart place shows x c None answer y (own, stays) =
    (subst (λ scene. IsOwn scene c answer) (shows.none x.counter) own, ap apart stays)
commands_apart place shows x c (Some k) answer y (reply, said, calls) =
    (reply, said, calls_apart place shows x c k reply y calls)

answered_apart : {S : Type 0} (place : Setting S) → ShowsNone place → (x : Player S) (q : Result Command LineFault)
    (answer : LineAnswer) (y : Player S) → IsAnswered place.go place.scene x q answer y
    → IsAnswered anyhow unseen (apart x) q answer (apart y)
answered_apart place shows x (Err reason) answer y (is, stays) = (is, ap apart stays)
answered_apart place shows x (Ok c) answer y made = commands_apart place shows x c (call_of c x.hand) answer y made

takes_apart : {S : Type 0} (place : Setting S) → ShowsNone place → (x : Player S) (n : ℕ)
    (q : Option (Result Command LineFault)) (text : List ℕ) (y : Player S) → Takes place x n q text y
    → Takes (at_desk place.names) (apart x) n q text (apart y)
takes_apart place shows x n None text y (is, stays) = (is, ap apart stays)
takes_apart place shows x n (Some q) text y (answer, made, printed) = (
  answer,
  answered_apart place shows x q answer y made,
  shows.alone place.names x.counter n q answer y.counter text printed
      ∙ ap (λ scene. numbered n (answer_text place.names scene answer)) (shows.none y.counter),
)

lines_apart : {S : Type 0} (place : Setting S) → ShowsNone place → (x : Player S) (n : ℕ)
    (lines : List (List ℕ)) (text : List ℕ) (y : Player S) → TakesAll place x n lines text y
    → TakesAll (at_desk place.names) (apart x) n lines text (apart y)
lines_apart place none x n [] text y (is, stays) = (is, ap apart stays)
lines_apart place none x n (line ∷ lines) text y (first, later, mid, is, takes, rest) = (
  first,
  later,
  apart mid,
  is,
  takes_apart place none x n (asked place.names line) first mid takes,
  lines_apart place none mid (n + 1) lines later y rest,
)

wants_apart : {S : Type 0} (go : Going S) (x : Player S) (q : Result Command LineFault) (y : Player S)
    → Wants go x q y → Wants anyhow (apart x) q (apart y)
wants_apart go x (Err reason) y wants = absurd wants
wants_apart go x (Ok c) y (k, is, goes, seat, hand) = (k, is, tt, seat, hand)

begins_apart : {S : Type 0} (place : Setting S) → ShowsNone place → (x : Player S)
    (q : Option (Result Command LineFault)) (y : Player S) → Begins place.go place.scene x q y
    → Begins anyhow unseen (apart x) q (apart y)
begins_apart place shows x None y begun = absurd begun
begins_apart place shows x (Some q) y (inl (answer, made)) = inl (answer, answered_apart place shows x q answer y made)
begins_apart place shows x (Some q) y (inr (inl wants)) = inr (inl (wants_apart place.go x q y wants))
begins_apart place shows x (Some q) y (inr (inr (is, stays))) = inr (inr (is, ap apart stays))

gives_apart : {S : Type 0} (go : Going S) (counter : S) (seat : SeatView) (hand : List Numbered) (last : S)
    (end : SeatView) → GivesBack go counter seat hand last end → GivesBack anyhow tt seat hand tt end
gives_apart go counter seat [] last end (stays, same) = (refl, same)
gives_apart go counter seat (finding ∷ hand) last end (reply, mid, is, goes, rest) =
    (reply, tt, is, tt, gives_apart go mid (gained seat (discard_of finding) reply) hand last end rest)

all_apart : {S : Type 0} (place : Setting S) → ShowsNone place → (lines : List (List ℕ)) (x z : Player S)
    (old new : Option (List ℕ)) → AnswersAll place lines x z old new
    → AnswersAll (at_desk place.names) lines (apart x) (apart z) old new
all_apart place none lines x z old new all = record {
  text = all.text;
  y = apart all.y;
  taken = lines_apart place none x 1 lines all.text all.y all.taken;
  ends = gives_apart place.go all.y.counter all.y.seat all.y.hand z.counter z.seat all.ends;
  written = all.written;
}

writing_apart : {S : Type 0} (place : Setting S) → ShowsNone place → (lines : List (List ℕ)) (x z : Player S)
    (old new : Option (List ℕ)) → StopsWriting place lines x z old new
    → StopsWriting (at_desk place.names) lines (apart x) (apart z) old new
writing_apart place none lines x z old new stops = record {
  done = stops.done;
  line = stops.line;
  rest = stops.rest;
  text = stops.text;
  part = stops.part;
  lost = stops.lost;
  mid = apart stops.mid;
  y = apart stops.y;
  split = stops.split;
  before = lines_apart place none x 1 stops.done stops.text stops.mid stops.before;
  taken = takes_apart place none stops.mid (length stops.done + 1) (asked place.names stops.line)
      (stops.part ++ stops.lost) stops.y stops.taken;
  is_lost = stops.is_lost;
  ends = gives_apart place.go stops.y.counter stops.y.seat stops.y.hand z.counter z.seat stops.ends;
  written = stops.written;
}

wanting_apart : {S : Type 0} (place : Setting S) → ShowsNone place → (lines : List (List ℕ)) (x z : Player S)
    (old new : Option (List ℕ)) → StopsWanting place lines x z old new
    → StopsWanting (at_desk place.names) lines (apart x) (apart z) old new
wanting_apart place none lines x z old new stops = record {
  done = stops.done;
  line = stops.line;
  rest = stops.rest;
  text = stops.text;
  mid = apart stops.mid;
  y = apart stops.y;
  split = stops.split;
  before = lines_apart place none x 1 stops.done stops.text stops.mid stops.before;
  begun = begins_apart place none stops.mid (asked place.names stops.line) stops.y stops.begun;
  ends = gives_apart place.go stops.y.counter stops.y.seat stops.y.hand z.counter z.seat stops.ends;
  written = stops.written;
}

-- A play of lines at a counter that shows no state is one at a desk.
pub sits : {S : Type 0} (place : Setting S) → ShowsNone place → (lines : List (List ℕ)) (stop : Option PlayFault)
    (result : Result (Unit {0}) PlayFault) (x z : Player S) (old new : Option (List ℕ))
    → IsPlayed place lines stop result x z old new
    → IsPlayed (at_desk place.names) lines stop result (apart x) (apart z) old new
unfolding wanting_apart
sits place none lines stop (Ok done) x z old new (is, all) = (is, all_apart place none lines x z old new all)
sits place none lines stop (Err fault.ReadFault) x z old new (is, all) =
    (is, all_apart place none lines x z old new all)
sits place none lines stop (Err fault.TooLong) x z old new (is, all) =
    (is, all_apart place none lines x z old new all)
sits place none lines stop (Err fault.WriteFault) x z old new stops =
    writing_apart place none lines x z old new stops
sits place none lines stop (Err fault.NoMemory) x z old new stops = wanting_apart place none lines x z old new stops
sits place none lines stop (Err fault.NoThread) x z old new (stops, is) =
    (wanting_apart place none lines x z old new stops, is)

-- Plays of a script

-- a play whose hand there was memory for
pub sits_at_desk : {S : Type 0} (place : Setting S) → ShowsNone place → (script : List ℕ)
    (result : Result (Unit {0}) PlayFault) (counter : S) (seat : SeatView) (last : S) (end : SeatView)
    (old new : Option (List ℕ))
    → IsPlayed place (answered_lines false script) (stop_of false script) result
    (seated counter seat) (seated last end) old new
    → PlaysAtDesk place.names script result seat end old new
sits_at_desk place none script result counter seat last end old new played =
    inl
    (sits place none (answered_lines false script) (stop_of false script) result (seated counter seat)
    (seated last end) old new played)

-- a play whose hand there was none for
pub sits_without : (names : List (List ℕ)) (script : List ℕ) (result : Result (Unit {0}) PlayFault) (seat : SeatView)
    (old : Option (List ℕ)) → IsErrAnd result (λ e. e ≡ fault.NoMemory)
    → PlaysAtDesk names script result seat seat old old
sits_without names script (Ok done) seat old is = absurd is
sits_without names script (Err reason) seat old is = inr (ap (λ e. Err e) is, refl, Keeps-refl old)

-- A seat keeps its number.

either_number : (written : Bool) (s t : SeatView) → t.number ≡ s.number → (cond written t s).number ≡ s.number
either_number true s t same = same
either_number false s t same = refl

-- by a call
pub gained_number : (s : SeatView) (c : Call) (reply : Reply) → (gained s c reply).number ≡ s.number
gained_number s c reply = either_number (is_written reply) s _ refl

number_by_command : {S : Type 0} (go : Going S) (scene : S → Option Cluster) (x : Player S) (c : Command)
    (made : Option Call) (answer : LineAnswer) (y : Player S) → Commands go scene x c made answer y
    → y.seat.number ≡ x.seat.number
number_by_command {S} go scene x c None answer y (own, stays) = ap (λ (v : Player S). v.seat.number) stays
number_by_command {S} go scene x c (Some k) answer y (reply, said, calls) =
    ap (λ (v : SeatView). v.number) calls.seat ∙ gained_number x.seat k reply

number_by_answer : {S : Type 0} (go : Going S) (scene : S → Option Cluster) (x : Player S) (q : Result Command LineFault)
    (answer : LineAnswer) (y : Player S) → IsAnswered go scene x q answer y → y.seat.number ≡ x.seat.number
number_by_answer {S} go scene x (Err reason) answer y (is, stays) = ap (λ (v : Player S). v.seat.number) stays
number_by_answer {S} go scene x (Ok c) answer y made =
    number_by_command go scene x c (call_of c x.hand) answer y made

number_by_line : {S : Type 0} (place : Setting S) (x : Player S) (n : ℕ) (q : Option (Result Command LineFault))
    (text : List ℕ) (y : Player S) → Takes place x n q text y → y.seat.number ≡ x.seat.number
number_by_line {S} place x n None text y (is, stays) = ap (λ (v : Player S). v.seat.number) stays
number_by_line {S} place x n (Some q) text y (answer, made, printed) =
    number_by_answer place.go place.scene x q answer y made

number_by_lines : {S : Type 0} (place : Setting S) (x : Player S) (n : ℕ) (lines : List (List ℕ)) (text : List ℕ)
    (y : Player S) → TakesAll place x n lines text y → y.seat.number ≡ x.seat.number
number_by_lines {S} place x n [] text y (is, stays) = ap (λ (v : Player S). v.seat.number) stays
number_by_lines {S} place x n (line ∷ lines) text y (first, later, mid, is, takes, rest) =
    number_by_lines place mid (n + 1) lines later y rest
    ∙ number_by_line place x n (asked place.names line) first mid takes

number_begun : {S : Type 0} (go : Going S) (scene : S → Option Cluster) (x : Player S)
    (q : Option (Result Command LineFault)) (y : Player S) → Begins go scene x q y → y.seat.number ≡ x.seat.number
number_begun {S} go scene x None y begun = absurd begun
number_begun {S} go scene x (Some q) y (inl (answer, made)) = number_by_answer go scene x q answer y made
number_begun {S} go scene x (Some (Err reason)) y (inr (inl wants)) = absurd wants
number_begun {S} go scene x (Some (Ok c)) y (inr (inl (k, is, goes, seat, hand))) = ap (λ (v : SeatView). v.number) seat
number_begun {S} go scene x (Some q) y (inr (inr (is, stays))) = ap (λ (v : Player S). v.seat.number) stays

number_given_back : {S : Type 0} (go : Going S) (counter : S) (seat : SeatView) (hand : List Numbered) (last : S)
    (end : SeatView) → GivesBack go counter seat hand last end → end.number ≡ seat.number
number_given_back go counter seat [] last end (stays, same) = ap (λ (v : SeatView). v.number) same
number_given_back go counter seat (finding ∷ hand) last end (reply, mid, is, goes, rest) =
    number_given_back go mid (gained seat (discard_of finding) reply) hand last end rest
    ∙ gained_number seat (discard_of finding) reply

pub number_answered : {S : Type 0} (place : Setting S) (lines : List (List ℕ)) (x z : Player S)
    (old new : Option (List ℕ)) → AnswersAll place lines x z old new → z.seat.number ≡ x.seat.number
number_answered place lines x z old new all =
    number_given_back place.go all.y.counter all.y.seat all.y.hand z.counter z.seat all.ends
    ∙ number_by_lines place x 1 lines all.text all.y all.taken

number_writing : {S : Type 0} (place : Setting S) (lines : List (List ℕ)) (x z : Player S)
    (old new : Option (List ℕ)) → StopsWriting place lines x z old new → z.seat.number ≡ x.seat.number
number_writing place lines x z old new stops =
    number_given_back place.go stops.y.counter stops.y.seat stops.y.hand z.counter z.seat stops.ends
    ∙ number_by_line place stops.mid (length stops.done + 1) (asked place.names stops.line)
    (stops.part ++ stops.lost) stops.y stops.taken
    ∙ number_by_lines place x 1 stops.done stops.text stops.mid stops.before

number_wanting : {S : Type 0} (place : Setting S) (lines : List (List ℕ)) (x z : Player S)
    (old new : Option (List ℕ)) → StopsWanting place lines x z old new → z.seat.number ≡ x.seat.number
number_wanting place lines x z old new stops =
    number_given_back place.go stops.y.counter stops.y.seat stops.y.hand z.counter z.seat stops.ends
    ∙ number_begun place.go place.scene stops.mid (asked place.names stops.line) stops.y stops.begun
    ∙ number_by_lines place x 1 stops.done stops.text stops.mid stops.before

pub number_played : {S : Type 0} (place : Setting S) (lines : List (List ℕ)) (stop : Option PlayFault)
    (result : Result (Unit {0}) PlayFault) (x z : Player S) (old new : Option (List ℕ))
    → IsPlayed place lines stop result x z old new → z.seat.number ≡ x.seat.number
number_played place lines stop (Ok done) x z old new (is, all) = number_answered place lines x z old new all
number_played place lines stop (Err fault.ReadFault) x z old new (is, all) =
    number_answered place lines x z old new all
number_played place lines stop (Err fault.TooLong) x z old new (is, all) = number_answered place lines x z old new all
number_played place lines stop (Err fault.WriteFault) x z old new stops = number_writing place lines x z old new stops
number_played place lines stop (Err fault.NoMemory) x z old new stops = number_wanting place lines x z old new stops
number_played place lines stop (Err fault.NoThread) x z old new (stops, is) =
    number_wanting place lines x z old new stops

-- by a play at a desk
pub number_at_desk : (names : List (List ℕ)) (script : List ℕ) (result : Result (Unit {0}) PlayFault)
    (seat end : SeatView) (old new : Option (List ℕ)) → PlaysAtDesk names script result seat end old new
    → end.number ≡ seat.number
number_at_desk names script result seat end old new (inl played) =
    number_played (at_desk names) (answered_lines false script) (stop_of false script) result
    (sitting seat) (sitting end) old new played
number_at_desk names script result seat end old new (inr none) =
    ap (λ (v : Player (Unit {0})). v.seat.number) none.1
