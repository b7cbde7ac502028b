-- The promise of swaps: an accepted one keeps it, no later event breaks it, and so it holds through undo and redo.
use Rattle.std.proofs.Common.{◌≡◌, ℕ, true, List, [], ◌∷◌, ◌++◌, length, take, drop, ◌-◌, Option, None, Some, IsSome, is_some, inl, inr, refl, sym, ap, ◌∙◌, subst, true≢false, append-nil}
use Rattle.std.specs.Prelude.{All, unwrap_or}
use Rattle.std.proofs.lemmas.Option.{same_Some}
use Rattle.std.proofs.lemmas.List.{append_assoc, take-append-drop}
use Rattle.std.proofs.lemmas.List.Elements.{All-nil, All-cons, All-weaker}
use Rattle.reh_types.specs.declared.moves.Event.{Event}
use Rattle.reh_types.specs.declared.moves.Event.TheVariants.{Swap}
use Rattle.reh_types.specs.declared.moves.Move.{Move}
use Rattle.reh_types.specs.declared.moves.Move.TheVariants.{Do, Post, Undo, Redo, Look}
use Rattle.reh_types.specs.declared.moves.Reply.{Reply}
use Rattle.reh_types.specs.declared.moves.Reply.TheVariants.{Done, Clock, Issued, Discarded, Refused}
use Rattle.reh_model.specs.Cluster.{Cluster, holds, stop_at, stripe_at}
use Rattle.reh_model.specs.Scan.{copy_of}
use Rattle.reh_model.specs.Step.{refusal_of, after}
use Rattle.reh_model.specs.Session.{Session, replay, state_of, reply_to, with_event, moved_session, session_after, Performs, Run}
use Rattle.reh_model.specs.Swaps.{HoldsStripe, IsSafe, IsSafeRun, AllSafe}
use Rattle.reh_model.proofs.AcceptedLaws.{accepted_swap_holds, done_accepted}
use Rattle.reh_model.proofs.PostLaws.{posted_accepted}
use Rattle.reh_model.proofs.SessionLaws.{replay_first, replay-append, replay-prefix, replay_one}
use Rattle.reh_model.proofs.PromiseLaws.{KeepsPromises}
use Rattle.reh_model.proofs.EventLaws.{KeepsPromises-after}

-- Accepted swaps

-- each accepted event keeps its promise
pub accepted_safe : (s : Cluster) (event : Event) → refusal_of s event ≡ None → HoldsStripe s event
accepted_safe s (Swap w l f i v) none = accepted_swap_holds s w l f i v none
accepted_safe s event none = tt

HoldsStripe-kept : (s t : Cluster) (event : Event) → KeepsPromises s t → HoldsStripe s event → HoldsStripe t event
HoldsStripe-kept s t (Swap w l f i v) keeps was = (
  subst (λ (o : Option ℕ). IsSome o) (sym (keeps.stop l f was.0)) was.0,
  subst (λ (es : List ℕ). All (λ e. holds t w l e ≡ true) es) (sym (keeps.stripe l f i was.0))
      (All-weaker (λ e. holds s w l e ≡ true) (λ e. holds t w l e ≡ true) (keeps.held w l) (stripe_at s l f i) was.1),
)
HoldsStripe-kept s t event keeps was = tt

-- No accepted event moves the stop of a fragment that has one,
pub stop_at-after : (s : Cluster) (event : Event) → refusal_of s event ≡ None → (l f : ℕ) → IsSome (stop_at s l f) → stop_at (after s event) l f ≡ stop_at s l f
stop_at-after s event accepted = (KeepsPromises-after s event accepted).stop

-- or changes which entries such a fragment stripes onto an index.
pub stripe_at-after : (s : Cluster) (event : Event) → refusal_of s event ≡ None → (l f i : ℕ) → IsSome (stop_at s l f) → stripe_at (after s event) l f i ≡ stripe_at s l f i
stripe_at-after s event accepted = (KeepsPromises-after s event accepted).stripe

-- No accepted event breaks a swap's promise,
HoldsStripe-after : (s : Cluster) (event later : Event) → refusal_of s later ≡ None → HoldsStripe s event → HoldsStripe (after s later) event
HoldsStripe-after s event later accepted was = HoldsStripe-kept s (after s later) event (KeepsPromises-after s later accepted) was

-- nor do several.
HoldsStripe-replay : (s t : Cluster) (event : Event) (later : List Event) → replay s later ≡ Some t → HoldsStripe s event → HoldsStripe t event
HoldsStripe-replay s t event [] is was = subst (λ (u : Cluster). HoldsStripe u event) (same_Some s t is) was
HoldsStripe-replay s t event (next ∷ later) is was =
    let first : (refusal_of s next ≡ None) × (replay s (next ∷ later) ≡ replay (after s next) later) = replay_first s next later (ap is_some is) in
    HoldsStripe-replay (after s next) t event later (sym first.1 ∙ is) (HoldsStripe-after s event next first.0 was)

-- Where events are replayed, each swap among them keeps its promise in the state that they lead to.
pub lasting : (s t : Cluster) (events : List Event) → replay s events ≡ Some t → All (HoldsStripe t) events
lasting s t [] is = All-nil (HoldsStripe t)
lasting s t (event ∷ later) is =
    let first : (refusal_of s event ≡ None) × (replay s (event ∷ later) ≡ replay (after s event) later) = replay_first s event later (ap is_some is) in
    let rest : replay (after s event) later ≡ Some t = sym first.1 ∙ is in
    All-cons (HoldsStripe t) event later
    (HoldsStripe-replay (after s event) t event later rest (HoldsStripe-after s event event first.0 (accepted_safe s event first.0)))
    (lasting (after s event) t later rest)

-- Sessions

-- the surviving events can be replayed, and the undone ones after them
abbrev pub CanRedoAll : Session → Type 0
CanRedoAll m = IsSome (replay m.opening (m.done ++ m.undone))

-- the replay that leads to the present state
pub replay_is : (m : Session) → CanRedoAll m → replay m.opening m.done ≡ Some (state_of m)
replay_is m can = some (replay m.opening m.done) (replay-prefix m.opening m.done m.undone can) where
  some : (o : Option Cluster) → IsSome o → o ≡ Some (unwrap_or o m.opening)
  some None there = absurd (true≢false (sym there))
  some (Some s) there = refl

-- in such a session, each surviving swap keeps its promise
pub all_safe : (m : Session) → CanRedoAll m → AllSafe m
all_safe m can = lasting m.opening (state_of m) m.done (replay_is m can)

-- an event that is accepted keeps that all can be redone
CanRedoAll-with_event : (m : Session) (event : Event) → refusal_of (state_of m) event ≡ None → CanRedoAll m → CanRedoAll (with_event m event)
CanRedoAll-with_event m event accepted can =
    ap (λ (es : List Event). is_some (replay m.opening es)) (append-nil (m.done ++ event ∷ []))
    ∙ ap is_some (replay-append m.opening (state_of m) m.done (event ∷ []) (replay_is m can) ∙ replay_one (state_of m) event accepted)

-- so does a move that is done
CanRedoAll-moved_session : (m : Session) (move : Move) → reply_to m move ≡ Done → CanRedoAll m → CanRedoAll (moved_session m move)
CanRedoAll-moved_session m (Do event) is can = CanRedoAll-with_event m event (done_accepted m event is) can
CanRedoAll-moved_session m (Post content) is can = CanRedoAll-with_event m (copy_of content) (posted_accepted m content is) can
CanRedoAll-moved_session m Undo is can =
    ap (λ (es : List Event). is_some (replay m.opening es))
    (sym (append_assoc (take (length m.done - 1) m.done) (drop (length m.done - 1) m.done) m.undone) ∙ ap (λ (es : List Event). es ++ m.undone) (take-append-drop (length m.done - 1) m.done))
    ∙ can
CanRedoAll-moved_session m Redo is can =
    ap (λ (es : List Event). is_some (replay m.opening es))
    (append_assoc m.done (take 1 m.undone) (drop 1 m.undone) ∙ ap (λ (es : List Event). m.done ++ es) (take-append-drop 1 m.undone))
    ∙ can
CanRedoAll-moved_session m Look is can = can

-- what a move leaves, where memory is wanted too
left_by : (m n : Session) (move : Move) (reply : Reply) → Performs m move reply n → n ≡ session_after m move reply
left_by m n move reply (inl answered) = answered.1
left_by m n move reply (inr wanted) = wanted.3 ∙ sym (ap (session_after m move) wanted.1)

-- a move that is answered done is done
done_by : (m n : Session) (move : Move) → Performs m move Done n → reply_to m move ≡ Done
done_by m n move (inl answered) = sym answered.0
done_by m n move (inr wanted) = wanted.2

CanRedoAll-after : (m : Session) (move : Move) (reply : Reply) (n : Session) → Performs m move reply n → CanRedoAll m → CanRedoAll (session_after m move reply)
CanRedoAll-after m move Done n performs can = CanRedoAll-moved_session m move (done_by m n move performs) can
CanRedoAll-after m move (Clock clock) n performs can = can
CanRedoAll-after m move (Issued number) n performs can = can
CanRedoAll-after m move Discarded n performs can = can
CanRedoAll-after m move (Refused refusal) n performs can = can

-- each move keeps that all can be redone
pub CanRedoAll-performs : (m : Session) (move : Move) (reply : Reply) (n : Session) → Performs m move reply n → CanRedoAll m → CanRedoAll n
CanRedoAll-performs m move reply n performs can = subst CanRedoAll (sym (left_by m n move reply performs)) (CanRedoAll-after m move reply n performs can)

-- so does each run
pub CanRedoAll-run : (m : Session) (moves : List Move) (replies : List Reply) (n : Session) → Run m moves replies n → CanRedoAll m → CanRedoAll n
CanRedoAll-run m [] [] n run can = subst CanRedoAll (sym run) can
CanRedoAll-run m [] (reply ∷ replies) n run can = absurd run
CanRedoAll-run m (move ∷ moves) [] n run can = absurd run
CanRedoAll-run m (move ∷ moves) (reply ∷ replies) n run can = CanRedoAll-run run.0 moves replies n run.2 (CanRedoAll-performs m move reply run.0 run.1 can)

-- A swap that is done keeps its promise in the state that it is made on.
pub safe_move : (m : Session) (move : Move) (reply : Reply) (n : Session) → Performs m move reply n → IsSafe (state_of m) move reply
safe_move m (Do event) Done n performs = accepted_safe (state_of m) event (done_accepted m event (done_by m n (Do event) performs))
safe_move m (Do event) (Clock clock) n performs = tt
safe_move m (Do event) (Issued number) n performs = tt
safe_move m (Do event) Discarded n performs = tt
safe_move m (Do event) (Refused refusal) n performs = tt
safe_move m (Post content) reply n performs = tt
safe_move m Undo reply n performs = tt
safe_move m Redo reply n performs = tt
safe_move m Look reply n performs = tt

-- So does each swap of a run.
pub safe_run : (m : Session) (moves : List Move) (replies : List Reply) (n : Session) → Run m moves replies n → IsSafeRun m moves replies
safe_run m [] [] n run = tt
safe_run m [] (reply ∷ replies) n run = absurd run
safe_run m (move ∷ moves) [] n run = absurd run
safe_run m (move ∷ moves) (reply ∷ replies) n run = (
  safe_move m move reply run.0 run.1,
  subst (λ (mid : Session). IsSafeRun mid moves replies) (left_by m run.0 move reply run.1) (safe_run run.0 moves replies n run.2),
)
