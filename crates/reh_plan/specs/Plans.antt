-- What a plan is: a script whose lines ask for events that are accepted one after another, and a comment for each ledger
-- with which something is left to do.
use Rattle.std.specs.Prelude.{◌≡◌, ◌⊎◌, ◌==◌, ℕ, ◌≤◌, IsTrue, IsFalse, Bool, true, false, not, ◌&&◌, ◌||◌, All, Any, List, [], ◌∷◌, ◌++◌, length, map}
use Rattle.std.specs.Prelude.{Option, None, Some, is_some, Result, Ok, codes, if◌then◌else◌}
use Rattle.std.specs.List.{filter, flat_map, list_all, list_any, range_with_len}
use Rattle.std.specs.Fmt.{decimal}
use Rattle.reh_types.specs.declared.limits.TheConstants.{MAX_SCRIPT_BYTES}
use Rattle.reh_types.specs.declared.moves.Event.{Event}
use Rattle.reh_types.specs.declared.moves.Event.TheVariants.{Lose, Audit, Acquire, Release, Finish, Grace, Tick}
use Rattle.reh_types.specs.declared.moves.Event.TheVariants.{Fence, Seal, Copy, Swap, Roll, Enable}
use Rattle.reh_types.specs.declared.moves.Move.TheVariants.{Do}
use Rattle.reh_model.specs.Audit.{first_under}
use Rattle.reh_model.specs.Cluster.{Cluster, Ledger, is_up}
use Rattle.reh_model.specs.Session as model
use Rattle.reh_model.specs.Session.{state_of}
use Rattle.reh_model.specs.Step.{refusal_of, after}
use Rattle.reh_commands.specs.Answers.{asked}
use Rattle.reh_lines.specs.Lines.{lines_of, ended}
use Rattle.reh_commands.specs.declared.commands.Command.{Command}
use Rattle.reh_commands.specs.declared.commands.Command.TheVariants.{Make}
use Rattle.reh_commands.specs.declared.commands.LineFault.{LineFault}
use Rattle.reh_plan.specs.Ends.{IsDone, IsFull, IsHarmless, HasNoRoom, full_line, says_full}
use Rattle.reh_plan.specs.Needed.{are_used}
use Rattle.reh_plan.specs.Reasons.{IsReason, reason_text}
use Rattle.reh_plan.specs.Workers.{Rules, may_work}
use Rattle.reh_plan.specs.declared.reasons.Left.{Left}
use Rattle.reh_plan.specs.declared.reasons.Reason.{Reason}

-- Scripts of events

-- the event that a line asks for, if it asks for one
abbrev pub event_asked : Option (Result Command LineFault) → List Event
event_asked (Some (Ok (Make (Do event)))) = event ∷ []
event_asked other = []

-- a line without an answer, as a comment, or one that asks for an event
abbrev pub IsEventOrNone : Option (Result Command LineFault) → Type 0
IsEventOrNone None = Unit {0}
IsEventOrNone (Some (Ok (Make (Do event)))) = Unit {0}
IsEventOrNone other = ⊥

-- with the bookies of these names, the lines ask for these events, in their order, and for nothing else
pub record Asks (names : List (List ℕ)) (lines : List (List ℕ)) (events : List Event) : Type 0 where
  pub only : All (λ line. IsEventOrNone (asked names line)) lines
  pub all : flat_map (λ line. event_asked (asked names line)) lines ≡ events

-- whether a text has an LF
abbrev pub has_lf : List ℕ → Bool
has_lf text = list_any (λ b. b == 10) text

-- Plans

-- the cluster on which a plan begins, the one to which it leads, the events of its lines, and the lines
pub record Draft : Type 0 where
  pub opening : Cluster
  pub state : Cluster
  pub events : List Event
  pub lines : List (List ℕ)

abbrev pub draft_of : model.Session → List ℕ → Draft
draft_of m text =
    record { opening = m.opening; state = state_of m; events = m.done; lines = lines_of text }

-- a plan's lines ask for the events that survive in its session, and no line is without its end
pub record IsDraft (m : model.Session) (text : List ℕ) : Type 0 where
  pub ends : ended text ≡ text
  pub few : length text ≤ MAX_SCRIPT_BYTES
  pub asks : Asks m.opening.names (lines_of text) m.done

-- the plan goes on from d to n by an event that is accepted, and by a line that asks for it
pub record IsMade (d : Draft) (event : Event) (n : Draft) : Type 0 where
  pub opening : n.opening ≡ d.opening
  pub accepted : refusal_of d.state event ≡ None
  pub state : n.state ≡ after d.state event
  pub events : n.events ≡ d.events ++ event ∷ []
  pub lines : (line : List ℕ) × (asked d.opening.names line ≡ Some (Ok (Make (Do event))))
      × (n.lines ≡ d.lines ++ line ∷ [])

-- in t the bookies that are lost aren't registered, and all others are as in s
abbrev pub IsWithout : Cluster → (ℕ → Bool) → Cluster → Type 0
IsWithout s is_lost t = (b : ℕ) → is_up t b ≡ is_up s b && not (is_lost b)

-- the loss of a bookie, if it is registered
abbrev pub loss_of : Cluster → ℕ → List Event
loss_of s bookie = if is_up s bookie then Lose bookie ∷ [] else []

-- those of the first n bookies that are to be lost, in picture order
abbrev pub losses_of : Cluster → (ℕ → Bool) → ℕ → List Event
losses_of s is_lost n = flat_map (loss_of s) (filter is_lost (range_with_len 0 n))

-- whether an event is AutoRecovery's, by bookies that may work: no bookie is lost or joins, and who locks a task, recovers a
-- ledger, copies or takes a place is one of them; whoever has a lock may give it back, or end the task. A writer puts such a
-- bookie into its ensemble only where writers do so, and then no ledger is fenced
abbrev pub is_work_by : Rules → Event → Bool
is_work_by rules Audit = true
is_work_by rules Enable = true
is_work_by rules (Tick ticks) = true
is_work_by rules (Release worker ledger) = true
is_work_by rules (Finish worker ledger) = true
is_work_by rules (Acquire worker ledger) = may_work rules worker
is_work_by rules (Grace worker ledger) = may_work rules worker && not rules.writers_roll
is_work_by rules (Fence worker ledger) = may_work rules worker && not rules.writers_roll
is_work_by rules (Seal worker ledger) = may_work rules worker
is_work_by rules (Roll ledger index bookie) = may_work rules bookie && rules.writers_roll
is_work_by rules (Copy worker ledger fragment index version) = may_work rules worker
is_work_by rules (Swap worker ledger fragment index version) = may_work rules worker
is_work_by rules other = false

-- after these events there is nothing but such work
abbrev pub GoesOnBy : Rules → List Event → List Event → Type 0
GoesOnBy rules before events =
    (work : List Event) × (events ≡ before ++ work) × (list_all (is_work_by rules) work ≡ true)

-- whether only such bookies copy or take a place by the event
abbrev pub is_filled_by : (ℕ → Bool) → Event → Bool
is_filled_by can (Copy worker ledger fragment index version) = can worker
is_filled_by can (Swap worker ledger fragment index version) = can worker
is_filled_by can (Roll ledger index bookie) = can bookie
is_filled_by can other = true

-- whether an event is one of no bookie
abbrev pub is_nobodys : Event → Bool
is_nobodys Audit = true
is_nobodys (Tick ticks) = true
is_nobodys Enable = true
is_nobodys event = false

-- whether each line has an answer, so that none is a comment
abbrev pub is_all_asked : Draft → Bool
is_all_asked d = list_all (λ line. is_some (asked d.opening.names line)) d.lines

-- the plan goes on from d to n by commands alone: work of bookies that may do it, by which no registration changes
pub record Works (rules : Rules) (d n : Draft) : Type 0 where
  pub opening : n.opening ≡ d.opening
  pub lost_at : n.state.parts.lost_at ≡ d.state.parts.lost_at
  pub work : GoesOnBy rules d.events n.events
  pub commands : is_all_asked n ≡ is_all_asked d

-- the plan goes on from d to n by the commands of these losses alone, by which the bookies are lost
pub record Loses (d : Draft) (is_lost : ℕ → Bool) (losses : List Event) (n : Draft) : Type 0 where
  pub opening : n.opening ≡ d.opening
  pub lost : IsWithout d.state is_lost n.state
  pub events : n.events ≡ d.events ++ losses
  pub commands : is_all_asked n ≡ is_all_asked d

-- What is left

-- whether something is left to do for a ledger: it has a task, or some member of an ensemble isn't registered
abbrev pub is_left : Cluster → Ledger → Bool
is_left s g = is_some g.task || is_some (first_under s g)

-- the comment that a ledger is left, and why
abbrev pub left_line : ℕ → List ℕ → List ℕ
left_line ledger why = codes "# ledger " ++ (decimal ledger ++ (codes " is left: " ++ why))

-- some line is such a comment
abbrev pub IsNamed : List (List ℕ) → ℕ → Type 0
IsNamed lines ledger = Any (λ line. (why : List ℕ) × (line ≡ left_line ledger why)) lines

-- each of these ledgers with which something is left is named in a comment
abbrev pub AllNamed : Cluster → List (List ℕ) → List Ledger → Type 0
AllNamed s lines ledgers = All (λ g. IsTrue (is_left s g) → IsNamed lines g.id) ledgers

-- the line is such a comment on one of these ledgers, and its reason is one
abbrev pub IsLeftLine : Rules → Bool → Cluster → List Ledger → List ℕ → Type 0
IsLeftLine rules full s ledgers line =
    Any (λ g. IsTrue (is_left s g)
    × ((reason : Reason) × IsReason rules full s g reason × (line ≡ left_line g.id (reason_text reason)))) ledgers

-- each line without an answer is a comment that the script is full, or on a ledger with which something is left, and why
abbrev pub AllLeft : Rules → Bool → List (List ℕ) → Cluster → List (List ℕ) → Type 0
AllLeft rules full names s lines =
    All (λ line. asked names line ≡ None → (line ≡ full_line) ⊎ IsLeftLine rules full s s.parts.ledgers line) lines

-- each line without an answer is one of those; and where one says that the script is full, it is
pub record OnlyLeft (rules : Rules) (names : List (List ℕ)) (s : Cluster) (lines : List (List ℕ)) : Type 0 where
  pub full : IsTrue (says_full lines) → IsFull names lines
  pub left : AllLeft rules (says_full lines) names s lines

-- the comment on a ledger that is left
abbrev pub comment_of : Left → List ℕ
comment_of left = left_line left.ledger (reason_text left.reason)

-- it is one of these ledgers, with which something is left for that reason
abbrev pub IsLeftFor : Rules → Bool → Cluster → List Ledger → Left → Type 0
IsLeftFor rules full s ledgers left =
    Any (λ g. (left.ledger ≡ g.id) × IsTrue (is_left s g) × IsReason rules full s g left.reason) ledgers

-- the ids of those of these ledgers with which something is left, in their order
abbrev pub left_ids : Cluster → List Ledger → List ℕ
left_ids s ledgers = map (λ g. g.id) (filter (is_left s) ledgers)

-- these are the ledgers with which something is left in s, in picture order, and why; the last lines say so, and those before
-- are commands, and the comment that the script is full
pub record AreLeft (rules : Rules) (names : List (List ℕ)) (s : Cluster) (lines : List (List ℕ)) (left : List Left) : Type 0 where
  pub before : List (List ℕ)
  pub told : lines ≡ before ++ map comment_of left
  pub others : All (λ line. asked names line ≡ None → line ≡ full_line) before
  pub of : map (λ l. l.ledger) left ≡ left_ids s s.parts.ledgers
  pub why : All (IsLeftFor rules (says_full lines) s s.parts.ledgers) left

-- the plan goes on by the comment that its script is full, if it is
abbrev pub with_full : Bool → Draft → Draft
with_full true d = record d { lines = d.lines ++ full_line ∷ [] }
with_full false d = d

-- the plan goes on from d to n by a comment on each ledger with which something is left, and why, and on no other
pub record IsNaming (rules : Rules) (full : Bool) (d : Draft) (left : List Left) (n : Draft) : Type 0 where
  pub told : n ≡ record d { lines = d.lines ++ map comment_of left }
  pub of : map (λ l. l.ledger) left ≡ left_ids d.state d.state.parts.ledgers
  pub why : All (IsLeftFor rules full d.state d.state.parts.ledgers) left

-- by the plan that is made so far nothing is left that could be done, and no command is in vain
pub record IsThrough (rules : Rules) (d : Draft) : Type 0 where
  pub done : IsDone rules d.state
  pub needed : IsTrue (are_used d.events)

-- the plan goes on from d to n by comments alone. One may say that its script is full, only if it has no room; without it
-- nothing is left that could be done, and no command is in vain. Then comes one on each ledger that is left
pub record Tells (rules : Rules) (d : Draft) (left : List Left) (n : Draft) : Type 0 where
  pub full : Bool
  pub cut_off : IsTrue full → HasNoRoom d.lines
  pub through : IsFalse full → IsThrough rules d
  pub naming : IsNaming rules full (with_full full d) left n

-- the plan goes on from d to n by such work, and then by such comments
pub record IsRepaired (rules : Rules) (d : Draft) (left : List Left) (n : Draft) : Type 0 where
  pub worked : Draft
  pub works : Works rules d worked
  pub tells : Tells rules worked left n

-- the plan goes on from d to n by the losses of these bookies, by AutoRecovery's work, and by comments on what is left; and no
-- ledger was fenced and not recovered
pub record IsPlayed (d : Draft) (is_lost : ℕ → Bool) (rules : Rules) (left : List Left) (n : Draft) : Type 0 where
  pub lost : Draft
  pub loses : Loses d is_lost (losses_of d.state is_lost (length d.state.names)) lost
  pub repaired : IsRepaired rules lost left n
  pub harmless : IsHarmless d.state n.state
