-- A session: the surviving events over an opening cluster and the undone ones, its replies, and what moves make of it.
use Rattle.std.specs.Prelude.{◌≡◌, ◌-◌, ◌==◌, Bool, true, false, IsTrue, nat_le, List, [], ◌∷◌, ◌++◌, length, take}
use Rattle.std.specs.Prelude.{drop, Option, None, Some, unwrap_or, Result, Ok, Err, ◌⊎◌}
use Rattle.reh_types.specs.declared.limits.TheConstants.{MAX_EVENTS}
use Rattle.reh_types.specs.declared.moves.Event.{Event}
use Rattle.reh_types.specs.declared.moves.Move.{Move}
use Rattle.reh_types.specs.declared.moves.Move.TheVariants.{Do, Post, Undo, Redo, Look}
use Rattle.reh_types.specs.declared.moves.Reply.{Reply}
use Rattle.reh_types.specs.declared.moves.Reply.TheVariants.{Done, Clock, Issued, Discarded, Refused}
use Rattle.reh_types.specs.declared.refusals.Refusal.{Refusal}
use Rattle.reh_types.specs.declared.refusals.Refusal.TheVariants.{NothingToUndo, NothingToRedo, Full, NoMemory}
use Rattle.reh_model.specs.Cluster.{Cluster}
use Rattle.reh_model.specs.Checks.{first_reason, reason_if}
use Rattle.reh_model.specs.Scan.{post_refusal, copy_of}
use Rattle.reh_model.specs.Step.{refusal_of, after}

-- Replays

-- nothing, where there is a refusal
abbrev pub unless : {A : Type 0} → Option Refusal → Option A → Option A
unless None result = result
unless (Some refusal) result = None

-- the cluster after a list of events, if each is accepted in its place
abbrev pub replay : Cluster → List Event → Option Cluster
replay s [] = Some s
replay s (event ∷ events) = unless (refusal_of s event) (replay (after s event) events)

-- Sessions

-- the opening cluster, the surviving events, oldest first, and the undone ones, first what is redone next
pub record Session : Type 0 where
  pub opening : Cluster
  pub done : List Event
  pub undone : List Event

-- a session with no event yet
abbrev pub opened_session : Cluster → Session
opened_session s = record { opening = s; done = []; undone = [] }

-- the state of a session: its surviving events, replayed from the opening cluster
abbrev pub state_of : Session → Cluster
state_of m = unwrap_or (replay m.opening m.done) m.opening

-- Moves

-- done, unless there is a refusal
abbrev pub reply_unless : Option Refusal → Reply
reply_unless None = Done
reply_unless (Some refusal) = Refused refusal

-- no more events can survive
abbrev pub no_room : Session → Option Refusal
no_room m = reason_if (nat_le MAX_EVENTS (length m.done)) Full

-- the reply to a move
abbrev pub reply_to : Session → Move → Reply
reply_to m (Do event) = reply_unless (first_reason (refusal_of (state_of m) event ∷ no_room m ∷ []))
reply_to m (Post content) = reply_unless (first_reason (post_refusal (state_of m) content ∷ no_room m ∷ []))
reply_to m Undo = reply_unless (reason_if (length m.done == 0) NothingToUndo)
reply_to m Redo = reply_unless (reason_if (length m.undone == 0) NothingToRedo)
reply_to m Look = Clock (state_of m).parts.scalars.clock

-- a new event survives, and none is undone any more
abbrev pub with_event : Session → Event → Session
with_event m event = record m { done = m.done ++ event ∷ []; undone = [] }

-- what a move that is done makes of a session: an event, or the copy that a post stands for, is added; undo and redo
-- move one event across
abbrev pub moved_session : Session → Move → Session
moved_session m (Do event) = with_event m event
moved_session m (Post content) = with_event m (copy_of content)
moved_session m Undo =
    record m { done = take (length m.done - 1) m.done; undone = drop (length m.done - 1) m.done ++ m.undone }
moved_session m Redo = record m { done = m.done ++ take 1 m.undone; undone = drop 1 m.undone }
moved_session m Look = m

-- the session after a move and its reply
abbrev pub session_after : Session → Move → Reply → Session
session_after m move Done = moved_session m move
session_after m move (Clock clock) = m
session_after m move (Issued number) = m
session_after m move Discarded = m
session_after m move (Refused refusal) = m

-- Answers

-- From m a move has this reply, and leaves n, as the machine says.
abbrev pub Answers : Session → Move → Reply → Session → Type 0
Answers m move reply n = (reply ≡ reply_to m move) × (n ≡ session_after m move reply)

-- whether a move takes memory: an event does, and a post, and nothing else
abbrev pub takes_memory : Move → Bool
takes_memory (Do event) = true
takes_memory (Post content) = true
takes_memory move = false

-- From m a move has this reply, and leaves n: as the machine says; or there is no memory for a move that takes some,
-- only where the machine says done, and nothing changes.
abbrev pub Performs : Session → Move → Reply → Session → Type 0
Performs m move reply n =
    Answers m move reply n
    ⊎ (IsTrue (takes_memory move) × (reply ≡ Refused NoMemory) × (reply_to m move ≡ Done) × (n ≡ m))

-- moves and replies, paired in order, from m to n
abbrev pub Run : Session → List Move → List Reply → Session → Type 0
Run m [] [] n = n ≡ m
Run m (move ∷ moves) (reply ∷ replies) n = (mid : Session) × Performs m move reply mid × Run mid moves replies n
Run m [] (reply ∷ replies) n = ⊥
Run m (move ∷ moves) [] n = ⊥

-- a call's result as the reply to its move
abbrev pub reply_of : Result (Unit {0}) Refusal → Reply
reply_of (Ok done) = Done
reply_of (Err refusal) = Refused refusal
