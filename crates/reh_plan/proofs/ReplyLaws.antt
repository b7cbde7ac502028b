-- Lines that ask for events which are accepted are answered `ok`.
use Rattle.std.proofs.Common.{◌≡◌, ℕ, ◌+◌, ◌<◌, ◌≤◌, false, List, [], ◌∷◌, ◌++◌, length, refl, sym, ap, ◌∙◌, arith, Option, None, Some, IsSome, is_some, length-append}
use Rattle.std.specs.Prelude.{All, Result, Ok, unwrap_or, nat_lt, nat_le, codes}
use Rattle.std.specs.List.{flat_map}
use Rattle.std.proofs.lemmas.Bool.Decides.{nat_tests}
use Rattle.std.proofs.lemmas.List.Elements.{All-head, All-tail}
use Rattle.reh_types.specs.declared.limits.TheConstants.{MAX_EVENTS, MAX_LINES}
use Rattle.reh_types.specs.declared.calls.Call.TheVariants as call
use Rattle.reh_types.specs.declared.moves.Event.{Event}
use Rattle.reh_types.specs.declared.moves.Move.TheVariants.{Do}
use Rattle.reh_types.specs.declared.moves.Reply.{Reply}
use Rattle.reh_types.specs.declared.moves.Reply.TheVariants.{Done}
use Rattle.reh_types.specs.declared.refusals.Refusal.TheVariants.{Full, TapeFull}
use Rattle.reh_model.specs.Book.{new_book, answer_to, book_after, or_refused}
use Rattle.reh_model.specs.Checks.{first_reason, reason_if}
use Rattle.reh_model.specs.Cluster.{Cluster}
use Rattle.reh_model.specs.Session.{replay, Session, state_of, with_event, opened_session, reply_unless}
use Rattle.reh_model.specs.Step.{refusal_of, after}
use Rattle.reh_model.proofs.SessionLaws.{replay_first, replay-append, replay_one}
use Rattle.reh_commands.specs.Answers.{asked, numbered, reply_answer}
use Rattle.reh_transcript.specs.Transcript.{BookPlayer, starting, transcript, answer_of, after_command}
use Rattle.reh_commands.specs.declared.commands.Command.{Command}
use Rattle.reh_commands.specs.declared.commands.Command.TheVariants.{Make}
use Rattle.reh_commands.specs.declared.commands.LineFault.{LineFault}
use Rattle.reh_plan.specs.Plans.{event_asked, IsEventOrNone, Asks}
use Rattle.reh_plan.specs.Replies.{ok_answer, ok_answers}

-- the one player of a book, of whose tape so many lines are taken
abbrev player : Session → ℕ → BookPlayer
player m k = record { book = record { session = m; lines = k; last_ticket = 0; out = [] }; hand = [] }

abbrev events_in : List (List ℕ) → List (List ℕ) → List Event
events_in names lines = flat_map (λ line. event_asked (asked names line)) lines

-- an accepted event is done
is_done : (m : Session) (k : ℕ) (event : Event) → refusal_of (state_of m) event ≡ None → length m.done < MAX_EVENTS
    → k < MAX_EVENTS → answer_to (player m k).book 0 (call.Ask (Do event)) ≡ Done
is_done m k event none few short =
    let room : nat_lt MAX_LINES (k + 0 + 1) ≡ false = grind (arith, nat_tests) in
    let free : nat_le MAX_EVENTS (length m.done) ≡ false = grind (arith, nat_tests) in
    λ i. or_refused (reason_if (room i) TapeFull) (reply_unless (first_reason (none i ∷ reason_if (free i) Full ∷ [])))

-- what holds of the lines after one
abbrev Later : List (List ℕ) → List (List ℕ) → Type 0
Later names lines =
    (m : Session) (t : Cluster) (k n : ℕ) → replay m.opening m.done ≡ Some t → IsSome (replay t (events_in names lines))
    → length m.done + length (events_in names lines) ≤ MAX_EVENTS → k + length (events_in names lines) ≤ MAX_EVENTS
    → transcript names 0 (player m k) n lines ≡ ok_answers names n lines

line_ok : (names lines : List (List ℕ)) → Later names lines → (a : Option (Result Command LineFault)) (m : Session) (t : Cluster) (k n : ℕ)
    → IsEventOrNone a → replay m.opening m.done ≡ Some t → IsSome (replay t (event_asked a ++ events_in names lines))
    → length m.done + length (event_asked a ++ events_in names lines) ≤ MAX_EVENTS
    → k + length (event_asked a ++ events_in names lines) ≤ MAX_EVENTS
    → answer_of names 0 (player m k) n a ++ transcript names 0 (after_command 0 (player m k) a) (n + 1) lines
    ≡ ok_answer n a ++ ok_answers names (n + 1) lines
line_ok names lines later None m t k n one now some few short = later m t k (n + 1) now some few short
line_ok names lines later (Some (Ok (Make (Do event)))) m t k n one now some few short =
    let first = replay_first t event (events_in names lines) some in
    let none : refusal_of (state_of m) event ≡ None =
    ap (λ (o : Option Cluster). refusal_of (unwrap_or o m.opening) event) now ∙ first.0 in
    let done : answer_to (player m k).book 0 (call.Ask (Do event)) ≡ Done = is_done m k event none (omega arith) (omega arith) in
    let next : replay m.opening (m.done ++ event ∷ []) ≡ Some (after t event) =
    replay-append m.opening t m.done (event ∷ []) now ∙ replay_one t event first.0 in
    let size : length (m.done ++ event ∷ []) ≡ length m.done + 1 = length-append m.done (event ∷ []) in
    ap (λ (r : Reply). numbered n (reply_answer names r) ++ transcript names 0 (record { book = book_after (player m k).book 0 (call.Ask (Do event)) r; hand = [] }) (n + 1) lines) done
    ∙ ap (λ (answers : List ℕ). numbered n (codes "ok\n") ++ answers)
    (later (with_event m event) (after t event) (k + 1) (n + 1) next (ap is_some (sym first.1) ∙ some) (omega (arith, size, few)) (omega (arith, short)))
line_ok names lines later other m t k n one now some few short = absurd one

all_ok : (names lines : List (List ℕ)) → All (λ line. IsEventOrNone (asked names line)) lines → Later names lines
all_ok names [] all m t k n now some few short = refl
all_ok names (line ∷ lines) all m t k n now some few short =
    line_ok names lines (all_ok names lines (All-tail (λ line. IsEventOrNone (asked names line)) line lines all)) (asked names line) m t k n
    (All-head (λ line. IsEventOrNone (asked names line)) line lines all) now some few short

-- so a plan's script is answered, from the cluster on which it begins
pub plan_ok : (s t : Cluster) (lines : List (List ℕ)) (events : List Event) → Asks s.names lines events → replay s events ≡ Some t
    → length events ≤ MAX_EVENTS → transcript s.names 0 (starting (new_book (opened_session s))) 1 lines ≡ ok_answers s.names 1 lines
plan_ok s t lines events asks now few =
    all_ok s.names lines asks.only (opened_session s) s 0 1 refl
    (ap (λ (es : List Event). is_some (replay s es)) asks.all ∙ ap is_some now)
    (omega (arith, few, ap length asks.all)) (omega (arith, few, ap length asks.all))
