-- Replays by one event and in two parts, the undo of an event that was just made, and runs by one move more.
use Rattle.std.proofs.Common.{◌≡◌, ℕ, ◌+◌, ◌-◌, ◌<◌, List, [], ◌∷◌, ◌++◌, length, get_or, take, drop, refl, sym, ap, ◌∙◌, subst, Option, Some, None, IsSome, is_some, true≢false, arith, length-append}
use Rattle.std.proofs.lemmas.List.{take_more, take_at, drop_at}
use Rattle.std.proofs.lemmas.Option.{same_Some}
use Rattle.std.specs.Prelude.{◌==◌}
use Rattle.reh_types.specs.declared.refusals.Refusal.{Refusal}
use Rattle.reh_types.specs.declared.moves.Event.{Event}
use Rattle.reh_types.specs.declared.moves.Move.{Move}
use Rattle.reh_types.specs.declared.moves.Move.TheVariants.{Do, Undo}
use Rattle.reh_types.specs.declared.moves.Reply.{Reply}
use Rattle.reh_types.specs.declared.moves.Reply.TheVariants.{Done}
use Rattle.reh_model.specs.Cluster.{Cluster}
use Rattle.reh_model.specs.Checks.{reason_if}
use Rattle.reh_model.specs.Step.{refusal_of, after}
use Rattle.reh_model.specs.Session.{Session, unless, replay, reply_unless, reply_to, moved_session, Performs, Run}

-- Replays

-- a value that is there shows that there was no refusal
unless_some : {A : Type 0} (o : Option Refusal) (x : Option A) → IsSome (unless o x) → (o ≡ None) × (unless o x ≡ x)
unless_some None x h = (refl, refl)
unless_some (Some r) x h = absurd (true≢false (sym h))

-- the first of several events that are all accepted
pub replay_first : (c : Cluster) (e : Event) (es : List Event) → IsSome (replay c (e ∷ es)) → (refusal_of c e ≡ None) × (replay c (e ∷ es) ≡ replay (after c e) es)
replay_first c e es h = unless_some (refusal_of c e) (replay (after c e) es) h

-- more events after some
pub replay-append : (c d : Cluster) (es fs : List Event) → replay c es ≡ Some d → replay c (es ++ fs) ≡ replay d fs
replay-append c d [] fs h = ap (λ (x : Cluster). replay x fs) (same_Some c d h)
replay-append c d (e ∷ es) fs h =
    let a : (refusal_of c e ≡ None) × (replay c (e ∷ es) ≡ replay (after c e) es) = replay_first c e es (ap is_some h) in
    ap (λ o. unless o (replay (after c e) (es ++ fs))) a.0 ∙ replay-append (after c e) d es fs (sym a.1 ∙ h)

-- where all are accepted, so are the first ones
pub replay-prefix : (c : Cluster) (es fs : List Event) → IsSome (replay c (es ++ fs)) → IsSome (replay c es)
replay-prefix c [] fs h = refl
replay-prefix c (e ∷ es) fs h =
    let a : (refusal_of c e ≡ None) × (replay c (e ∷ (es ++ fs)) ≡ replay (after c e) (es ++ fs)) = replay_first c e (es ++ fs) h in
    ap (λ o. is_some (unless o (replay (after c e) es))) a.0 ∙ replay-prefix (after c e) es fs (ap is_some (sym a.1) ∙ h)

-- one accepted event
pub replay_one : (c : Cluster) (e : Event) → refusal_of c e ≡ None → replay c (e ∷ []) ≡ Some (after c e)
replay_one c e h = ap (λ o. unless o (Some (after c e))) h

-- An event followed by an undo

length-push : (es : List Event) (e : Event) → length (es ++ e ∷ []) - 1 ≡ length es
length-push es e = omega (arith, length-append es (e ∷ []))

-- a number that isn't 0 is no reason to refuse
pub reply_unless-some : (n : ℕ) (r : Refusal) → 0 < n → reply_unless (reason_if (n == 0) r) ≡ Done
reply_unless-some n r h = grind arith

pub undo_accepted : (m : Session) (e : Event) → reply_to m (Do e) ≡ Done → reply_to (moved_session m (Do e)) Undo ≡ Done
undo_accepted m e h = reply_unless-some (length (m.done ++ e ∷ [])) _ (omega (arith, length-append m.done (e ∷ [])))

pub moved_session-undo : (m : Session) (e : Event) → moved_session (moved_session m (Do e)) Undo ≡ record m { undone = e ∷ [] }
moved_session-undo m e = λ i. record {
  opening = m.opening;
  done = (ap (λ n. take n (m.done ++ e ∷ [])) (length-push m.done e) ∙ take_at m.done (e ∷ []) (length m.done) refl) i;
  undone = (ap (λ n. drop n (m.done ++ e ∷ []) ++ []) (length-push m.done e) ∙ ap (λ es. es ++ []) (drop_at m.done (e ∷ []) (length m.done) refl)) i;
}

-- Runs

-- a run goes on by one move
Run-push : (m n p : Session) (ms : List Move) (rs : List Reply) (move : Move) (r : Reply) → Run m ms rs n → Performs n move r p → Run m (ms ++ move ∷ []) (rs ++ r ∷ []) p
Run-push m n p [] [] move r h a = (p, subst (λ (x : Session). Performs x move r p) h a, refl)
Run-push m n p [] (s ∷ rs) move r h a = absurd h
Run-push m n p (x ∷ ms) [] move r h a = absurd h
Run-push m n p (x ∷ ms) (s ∷ rs) move r h a = (h.0, h.1, Run-push h.0 n p ms rs move r h.2 a)

-- the run of the first moves goes on by the next one
pub Run-next : (m n p : Session) (ms : List Move) (i : ℕ) (rs : List Reply) (move : Move) (r : Reply) → i < length ms → move ≡ get_or ms i move → Run m (take i ms) rs n → Performs n move r p → Run m (take (i + 1) ms) (rs ++ r ∷ []) p
Run-next m n p ms i rs move r more is h a =
    subst (λ (xs : List Move). Run m xs (rs ++ r ∷ []) p) (sym (take_more ms i move more ∙ ap (λ (x : Move). take i ms ++ x ∷ []) (sym is))) (Run-push m n p (take i ms) rs move r h a)
