-- Each move is answered as the machine says, and keeps what a session keeps.
use Rattle.std.proofs.Common.{◌≡◌, ◌<◌, ◌≤◌, ◌+◌, ◌-◌, ℕ, zero, suc, List, [], ◌∷◌, ◌++◌, length, take, drop, get_or}
use Rattle.std.proofs.Common.{set, sym, ap, subst, ◌∙◌, refl, arith, Option, Some, None, IsSome, is_some, inl, inr}
use Rattle.std.proofs.Common.{nat_le, true, false, length-append}
use Rattle.std.specs.Prelude.{unwrap_or}
use Rattle.std.proofs.lemmas.Bool.Decides.{nat_tests}
use Rattle.std.proofs.lemmas.List.{take_more, drop_more, take_all, drop_all, take_more_set, take-set, drop-set}
use Rattle.std.proofs.lemmas.List.{drop-set-lt, drop-drop, drop-take, take-take, take-append-drop, length-take-le}
use Rattle.std.proofs.lemmas.List.{length-drop, length-set}
use Rattle.std.proofs.Math.Seq.{take-add}
use Rattle.reh_types.specs.declared.contents.Content.{Content}
use Rattle.reh_types.specs.declared.limits.TheConstants.{MAX_EVENTS}
use Rattle.reh_types.specs.declared.moves.Event.{Event}
use Rattle.reh_types.specs.declared.moves.Move.{Move}
use Rattle.reh_types.specs.declared.moves.Move.TheVariants.{Do, Post, Undo, Redo, Look}
use Rattle.reh_types.specs.declared.moves.Reply.{Reply}
use Rattle.reh_types.specs.declared.moves.Reply.TheVariants.{Done, Clock, Refused}
use Rattle.reh_types.specs.declared.refusals.Refusal.{Refusal}
use Rattle.reh_types.specs.declared.refusals.Refusal.TheVariants.{Full, NothingToUndo, NothingToRedo}
use Rattle.reh_model.specs.Cluster.{Cluster}
use Rattle.reh_model.specs.WellFormed.{IsWellFormed}
use Rattle.reh_model.specs.Places.{Change, exchanged, left, Fits, IsDelta}
use Rattle.reh_model.specs.Refusals.{or_no_memory}
use Rattle.reh_model.specs.Scan.{post_refusal}
use Rattle.reh_model.specs.Step.{refusal_of, after}
use Rattle.reh_model.specs.Swaps.{AllSafe}
use Rattle.reh_model.specs.Session.{Session, replay, state_of, reply_to, moved_session, Answers, Performs, Run}
use Rattle.reh_model.proofs.SessionLaws.{replay-append, reply_unless-some}
use Rattle.reh_model.proofs.ExchangeLaws.{IsDelta-left}
use Rattle.reh_model.proofs.SwapLaws.{CanRedoAll, CanRedoAll-performs, CanRedoAll-run, all_safe}
use Rattle.reh_model.proofs.AcceptedLaws.{done_within, full_refused, refused_first}
use Rattle.reh_model.proofs.PostLaws.{posted_first}
use Rattle.reh_step.specs.Records.{IsRecordOf}
use Rattle.reh_session.specs.Kept.{led_back, led_on, session_of, Trail, Ahead, IsKept}
use Rattle.reh_session.proofs.Trails.{led_back-trail, replay-trail, replay-trail-first, replay-ahead}
use Rattle.reh_session.proofs.Trails.{replay-ahead-first, trail_more, trail_less, IsLast}

-- Lists

-- the element at a place
one_at : {X : Type 0} (xs : List X) (j : ℕ) → j < length xs → (x : X) × (x ≡ get_or xs j x)
one_at [] j h = absurd (omega arith)
one_at (x ∷ xs) zero h = (x, refl)
one_at (x ∷ xs) (suc j) h = one_at xs j (omega arith)

take_one : {X : Type 0} (xs : List X) (j : ℕ) (x : X) → j < length xs → x ≡ get_or xs j x
    → take (j + 1) xs ≡ take j xs ++ x ∷ []
take_one xs j x h is = take_more xs j x h ∙ ap (λ y. take j xs ++ y ∷ []) (sym is)

drop_one : {X : Type 0} (xs : List X) (j : ℕ) (x : X) → j < length xs → x ≡ get_or xs j x
    → drop j xs ≡ x ∷ drop (j + 1) xs
drop_one xs j x h is = drop_more xs j x h ∙ ap (λ y. y ∷ drop (j + 1) xs) (sym is)

-- the elements from a place on, cut one further
drop_in_two : {X : Type 0} (xs : List X) (k : ℕ) → 0 < k → drop (k - 1) (take k xs) ++ drop k xs ≡ drop (k - 1) xs
drop_in_two xs k some =
    let one : k ≡ (k - 1) + 1 = omega arith in
    ap (λ n. drop (k - 1) (take n xs) ++ drop n xs) one
    ∙ ap (λ ys. ys ++ drop ((k - 1) + 1) xs) (drop-take (k - 1) 1 xs)
    ∙ ap (λ ys. take 1 (drop (k - 1) xs) ++ ys) (sym (drop-drop 1 (k - 1) xs))
    ∙ take-append-drop 1 (drop (k - 1) xs)

-- What is kept of a session

module _ {s : Cluster} {es : List Event} {rs : List (List Change)} {k : ℕ} (h : IsKept s es rs k) where
  -- the surviving events lead from the opening cluster to the state
  pub replay_done : replay (led_back s (take k rs)) (take k es) ≡ Some s
  replay_done = replay-trail (led_back s (take k rs)) (take k es) (take k rs) s h.done

  -- all events can be made again, those that survive and then those that are undone
  pub all_redoable : IsSome (replay (led_back s (take k rs)) (take k es ++ drop k es))
  all_redoable =
      ap is_some (replay-append (led_back s (take k rs)) s (take k es) (drop k es) replay_done)
      ∙ replay-ahead s (drop k es) (drop k rs) h.undone

  module _ (m : Session) (is : session_of s es rs k ≡ m) where
    -- the state is that of the session
    state_is : state_of m ≡ s
    state_is =
        ap (λ (n : Session). state_of n) (sym is)
        ∙ ap (λ (x : Option Cluster). unwrap_or x (led_back s (take k rs))) replay_done

    -- an event that the state accepts is accepted, and the other way round
    pub accepted_now : (e : Event) → refusal_of s e ≡ None → refusal_of (state_of m) e ≡ None
    accepted_now e accepted = ap (λ (x : Cluster). refusal_of x e) state_is ∙ accepted

    pub accepted_inside : (e : Event) → refusal_of (state_of m) e ≡ None → refusal_of s e ≡ None
    accepted_inside e accepted = ap (λ (x : Cluster). refusal_of x e) (sym state_is) ∙ accepted

    -- so is its record
    pub record_now : (e : Event) (r : List Change) → IsRecordOf s e r → IsRecordOf (state_of m) e r
    record_now e r = subst (λ (x : Cluster). IsRecordOf x e r) (sym state_is)

    pub record_inside : (e : Event) (r : List Change) → IsRecordOf (state_of m) e r → IsRecordOf s e r
    record_inside e r = subst (λ (x : Cluster). IsRecordOf x e r) state_is

    -- and the room
    pub count_now : length m.done ≡ k
    count_now = ap (λ (n : Session). length n.done) (sym is) ∙ length-take-le k es h.within

    -- so is a content
    pub content_accepted : (content : Content) → post_refusal s content ≡ None
        → post_refusal (state_of m) content ≡ None
    content_accepted content accepted = ap (λ (x : Cluster). post_refusal x content) state_is ∙ accepted

    -- a post is answered with the state's refusal, if there is one
    pub post_refused : (content : Content) (r : Refusal) → post_refusal s content ≡ Some r
        → Performs m (Post content) (Refused r) m
    post_refused content r refused =
        inl (sym (posted_first m content r (ap (λ (x : Cluster). post_refusal x content) state_is ∙ refused)), refl)

    -- so is an event
    pub act_refused : (e : Event) (r : Refusal) → refusal_of s e ≡ Some r → Performs m (Do e) (Refused r) m
    act_refused e r refused =
        inl (sym (refused_first m e r (ap (λ (x : Cluster). refusal_of x e) state_is ∙ refused)), refl)

    -- else an event is done, where there is room for it
    pub act_done : (e : Event) → refusal_of s e ≡ None → k < MAX_EVENTS → reply_to m (Do e) ≡ Done
    act_done e accepted room = done_within m e (accepted_now e accepted) (omega (arith, count_now))

    -- and refused, where there is none
    pub act_full : (e : Event) → refusal_of s e ≡ None → nat_le MAX_EVENTS (length m.done) ≡ true
        → Performs m (Do e) (Refused Full) m
    act_full e accepted full = inl (sym (full_refused m e (accepted_now e accepted) full), refl)

    -- where there is no record of it, it is refused, or memory is wanted
    pub act_unmade : (e : Event) (r : Refusal) → nat_le MAX_EVENTS (length m.done) ≡ false
        → r ≡ or_no_memory (refusal_of s e) → Performs m (Do e) (Refused r) m
    act_unmade e r room tells =
        elim (refusal_of s e) as (λ o. refusal_of s e ≡ o → r ≡ or_no_memory o → Performs m (Do e) (Refused r) m) [
          | None ↦ λ accepted wants.
              let few : k < MAX_EVENTS = grind (arith, nat_tests, room, count_now) in
              inr (refl, ap Refused wants, act_done e accepted few, refl)
          | Some refusal ↦ λ refused same. act_refused e r (refused ∙ ap Some (sym same))
        ] refl tells

    -- a look shows the state's clock
    pub look_answers : (clock : ℕ) → clock ≡ s.parts.scalars.clock → Performs m Look (Clock clock) m
    look_answers clock shown = inl (ap Clock (shown ∙ ap (λ (x : Cluster). x.parts.scalars.clock) (sym state_is)), refl)

    -- each surviving swap keeps its promise
    pub kept_safe : AllSafe m
    kept_safe = subst AllSafe is (all_safe _ all_redoable)

    -- and still does after a move
    pub perform_safe : (n : Session) (move : Move) (reply : Reply) → Performs m move reply n → AllSafe n
    perform_safe n move reply performs =
        all_safe n (CanRedoAll-performs m move reply n performs (subst CanRedoAll is all_redoable))

    -- and after a run
    pub run_safe : (n : Session) (moves : List Move) (replies : List Reply) → Run m moves replies n → AllSafe n
    run_safe n moves replies run = all_safe n (CanRedoAll-run m moves replies n run (subst CanRedoAll is all_redoable))

-- each record of a surviving event is the difference that leads back over it
pub trail_shown : {s : Cluster} {es : List Event} {rs : List (List Change)} {k : ℕ} → IsKept s es rs k
    → Trail (led_back s (take k rs)) (take k es) (take (length (take k es)) rs) (state_of (session_of s es rs k))
trail_shown {s} {es} {rs} {k} h =
    subst (λ (t : Cluster). Trail (led_back s (take k rs)) (take k es) (take (length (take k es)) rs) t)
    (sym (state_is h (session_of s es rs k) refl))
    (subst (λ n. Trail (led_back s (take k rs)) (take k es) (take n rs) s) (sym (length-take-le k es h.within)) h.done)

-- and each one of an undone event the difference that makes it
pub ahead_shown : {s : Cluster} {es : List Event} {rs : List (List Change)} {k : ℕ} → IsKept s es rs k
    → Ahead (state_of (session_of s es rs k)) (drop k es) (drop (length (take k es)) rs)
ahead_shown {s} {es} {rs} {k} h =
    subst (λ (t : Cluster). Ahead t (drop k es) (drop (length (take k es)) rs))
    (sym (state_is h (session_of s es rs k) refl))
    (subst (λ n. Ahead s (drop k es) (drop n rs)) (sym (length-take-le k es h.within)) h.undone)

-- the records lead back from the state, each to where its event was made
pub replay_back : {s : Cluster} {es : List Event} {rs : List (List Change)} {k : ℕ} → IsKept s es rs k → (j : ℕ)
    → j ≤ length (take k es)
    → replay (led_back s (take k rs)) (take j (take k es))
    ≡ Some (led_back (state_of (session_of s es rs k)) (drop j (take (length (take k es)) rs)))
replay_back {s} {es} {rs} {k} h j within =
    replay-trail-first (led_back s (take k rs)) (take k es) (take k rs) s h.done j within
    ∙ (λ i.
    Some
    (led_back (sym (state_is h (session_of s es rs k) refl) i)
    (drop j (take (sym (length-take-le k es h.within) i) rs))))

-- and on, each to where its event leads
pub replay_forth : {s : Cluster} {es : List Event} {rs : List (List Change)} {k : ℕ} → IsKept s es rs k → (j : ℕ)
    → j ≤ length (drop k es)
    → replay (led_back s (take k rs)) (take k es ++ take j (drop k es))
    ≡ Some (led_on (state_of (session_of s es rs k)) (take j (drop (length (take k es)) rs)))
replay_forth {s} {es} {rs} {k} h j within =
    replay-append (led_back s (take k rs)) s (take k es) (take j (drop k es)) (replay_done h)
    ∙ replay-ahead-first s (drop k es) (drop k rs) h.undone j within
    ∙ (λ i.
    Some
    (led_on (sym (state_is h (session_of s es rs k) refl) i) (take j (drop (sym (length-take-le k es h.within) i) rs))))

-- Undo

-- the cursor after an event
module _ (s : Cluster) (es : List Event) (rs : List (List Change)) (j : ℕ) (h : IsKept s es rs (j + 1))
    (r : List Change) (at_j : r ≡ get_or rs j r) where
  in_es : j < length es
  in_es = omega (arith, h.within)

  in_rs : j < length rs
  in_rs = omega (arith, h.within, h.paired)

  last_event : (e : Event) × (e ≡ get_or es j e)
  last_event = one_at es j in_es

  last : IsLast (led_back s (take (j + 1) rs)) (take j es) (take j rs) (last_event.0) r s
  last =
      trail_less (led_back s (take (j + 1) rs)) (take j es) (take j rs) (last_event.0) r s
      (subst (λ (xs : List Event). Trail (led_back s (take (j + 1) rs)) xs (take j rs ++ r ∷ []) s)
      (take_one es j (last_event.0) in_es (last_event.1))
      (subst (λ (qs : List (List Change)). Trail (led_back s (take (j + 1) rs)) (take (j + 1) es) qs s)
      (take_one rs j r in_rs at_j) h.done))

  same_opening : led_back (exchanged s r) (take j (set rs j (left s r))) ≡ led_back s (take (j + 1) rs)
  same_opening =
      ap (λ (qs : List (List Change)). led_back (exchanged s r) qs) (take-set rs j (left s r))
      ∙ led_back-trail _ (take j es) (take j rs) (exchanged s r) last.before

  undo_keeps_at : IsKept (exchanged s r) es (set rs j (left s r)) j
  undo_keeps_at =
      let e : Event = last_event.0 in
      record {
        within = omega (arith, h.within);
        few = h.few;
        paired = length-set rs j (left s r) ∙ h.paired;
        well_formed = last.delta.fits.well_formed;
        done =
            subst (λ (o : Cluster). Trail o (take j es) (take j (set rs j (left s r))) (exchanged s r))
            (sym same_opening)
            (subst (λ (qs : List (List Change)). Trail (led_back s (take (j + 1) rs)) (take j es) qs (exchanged s r))
            (sym (take-set rs j (left s r))) last.before);
        undone =
            subst (λ (xs : List Event). Ahead (exchanged s r) xs (drop j (set rs j (left s r))))
            (sym (drop_one es j e in_es (last_event.1)))
            (subst (λ (qs : List (List Change)). Ahead (exchanged s r) (e ∷ drop (j + 1) es) qs)
            (sym (drop-set rs j (left s r) in_rs)) (
              last.accepted,
              subst (λ (t : Cluster). IsDelta (exchanged s r) t (left s r)) (sym last.made)
                  (IsDelta-left s (exchanged s r) r h.well_formed last.delta),
              subst (λ (t : Cluster). Ahead t (drop (j + 1) es) (drop (j + 1) rs)) (sym last.made) h.undone,
            ));
      }

one_less : (k : ℕ) → 0 < k → (k - 1) + 1 ≡ k
one_less k h = omega arith

kept_at : {s : Cluster} {es : List Event} {rs : List (List Change)} {k : ℕ} → 0 < k → IsKept s es rs k
    → IsKept s es rs ((k - 1) + 1)
kept_at {s} {es} {rs} {k} some h = subst (λ n. IsKept s es rs n) (sym (one_less k some)) h

-- the record before the cursor
module _ {s : Cluster} {es : List Event} {rs : List (List Change)} {k : ℕ} (h : IsKept s es rs k) (some : 0 < k)
    (r : List Change) (is : r ≡ get_or rs (k - 1) r) where
  -- it can be exchanged
  pub undo_fits : Fits s r
  undo_fits = (last s es rs (k - 1) (kept_at some h) r is).delta.fits

  module _ (l : List Change) (u : Cluster) (made : u ≡ exchanged s r) (leaves : l ≡ left s r) where
    -- which keeps what a session keeps,
    pub undo_keeps : IsKept u es (set rs (k - 1) l) (k - 1)
    undo_keeps =
        subst (λ (t : Cluster). IsKept t es (set rs (k - 1) l) (k - 1)) (sym made)
        (subst (λ (q : List Change). IsKept (exchanged s r) es (set rs (k - 1) q) (k - 1)) (sym leaves)
        (undo_keeps_at s es rs (k - 1) (kept_at some h) r is))

    -- and is an undo
    pub undo_answers : Answers (session_of s es rs k) Undo Done (session_of u es (set rs (k - 1) l) (k - 1))
    undo_answers =
        let size : length (take k es) ≡ k = length-take-le k es h.within in
        let opening : led_back u (take (k - 1) (set rs (k - 1) l)) ≡ led_back s (take k rs) =
        ap (λ (t : Cluster). led_back t (take (k - 1) (set rs (k - 1) l))) made
        ∙ ap (λ (q : List Change). led_back (exchanged s r) (take (k - 1) (set rs (k - 1) q))) leaves
        ∙ same_opening s es rs (k - 1) (kept_at some h) r is
        ∙ ap (λ n. led_back s (take n rs)) (one_less k some) in (
          sym (reply_unless-some (length (take k es)) NothingToUndo (omega (arith, size))),
          (λ i. record {
            opening = opening i;
            done = (sym (take-take (k - 1) k es (omega arith)) ∙ ap (λ n. take (n - 1) (take k es)) (sym size)) i;
            undone = (sym (drop_in_two es k some) ∙ ap (λ n. drop (n - 1) (take k es) ++ drop k es) (sym size)) i;
          }),
        )

-- Redo

-- the record after the cursor
module _ {s : Cluster} {es : List Event} {rs : List (List Change)} {k : ℕ} (h : IsKept s es rs k) (more : k < length es)
    (r : List Change) (at_k : r ≡ get_or rs k r) where
  next_event : (e : Event) × (e ≡ get_or es k e)
  next_event = one_at es k more

  more_records : k < length rs
  more_records = omega (arith, h.paired)

  next : (refusal_of s (next_event.0) ≡ None) × IsDelta s (after s (next_event.0)) r
      × Ahead (after s (next_event.0)) (drop (k + 1) es) (drop (k + 1) rs)
  next =
      subst (λ (xs : List Event). Ahead s xs (r ∷ drop (k + 1) rs)) (drop_one es k (next_event.0) more (next_event.1))
      (subst (λ (qs : List (List Change)). Ahead s (drop k es) qs) (drop_one rs k r more_records at_k) h.undone)

  -- it can be exchanged
  pub redo_fits : Fits s r
  redo_fits = next.1.fits

  redo_trail : Trail (led_back s (take k rs)) (take (k + 1) es) (take (k + 1) (set rs k (left s r)))
      (after s (next_event.0))
  redo_trail =
      let e : Event = next_event.0 in
      subst (λ (xs : List Event). Trail (led_back s (take k rs)) xs (take (k + 1) (set rs k (left s r))) (after s e))
      (sym (take_one es k e more (next_event.1)))
      (subst (λ (qs : List (List Change)). Trail (led_back s (take k rs)) (take k es ++ e ∷ []) qs (after s e))
      (sym (take_more_set rs k (left s r) more_records))
      (trail_more (led_back s (take k rs)) (take k es) (take k rs) s h.done e (left s r) next.0
      (IsDelta-left s (after s e) r h.well_formed next.1)))

  redo_opening : led_back (after s (next_event.0)) (take (k + 1) (set rs k (left s r))) ≡ led_back s (take k rs)
  redo_opening = led_back-trail _ (take (k + 1) es) _ _ redo_trail

  redo_keeps_at : IsKept (after s (next_event.0)) es (set rs k (left s r)) (k + 1)
  redo_keeps_at = record {
    within = omega arith;
    few = h.few;
    paired = length-set rs k (left s r) ∙ h.paired;
    well_formed = subst IsWellFormed next.1.makes next.1.fits.well_formed;
    done =
        subst (λ (o : Cluster). Trail o (take (k + 1) es) (take (k + 1) (set rs k (left s r))) (after s (next_event.0)))
        (sym redo_opening) redo_trail;
    undone =
        subst (λ (qs : List (List Change)). Ahead (after s (next_event.0)) (drop (k + 1) es) qs)
        (sym (drop-set-lt (k + 1) rs k (left s r) (omega arith))) next.2;
  }

  module _ (l : List Change) (u : Cluster) (made : u ≡ exchanged s r) (leaves : l ≡ left s r) where
    made_after : u ≡ after s (next_event.0)
    made_after = made ∙ next.1.makes

    -- which keeps what a session keeps,
    pub redo_keeps : IsKept u es (set rs k l) (k + 1)
    redo_keeps =
        subst (λ (t : Cluster). IsKept t es (set rs k l) (k + 1)) (sym made_after)
        (subst (λ (q : List Change). IsKept (after s (next_event.0)) es (set rs k q) (k + 1)) (sym leaves)
        redo_keeps_at)

    -- and is a redo
    pub redo_answers : Answers (session_of s es rs k) Redo Done (session_of u es (set rs k l) (k + 1))
    redo_answers =
        let opening : led_back u (take (k + 1) (set rs k l)) ≡ led_back s (take k rs) =
        ap (λ (t : Cluster). led_back t (take (k + 1) (set rs k l))) made_after
        ∙ ap (λ (q : List Change). led_back (after s (next_event.0)) (take (k + 1) (set rs k q))) leaves
        ∙ redo_opening in (
          sym (reply_unless-some (length (drop k es)) NothingToRedo (omega (arith, length-drop k es))),
          (λ i. record { opening = opening i; done = take-add k 1 es i; undone = sym (drop-drop 1 k es) i }),
        )

-- Act

module _ {s : Cluster} {es : List Event} {rs : List (List Change)} {k : ℕ} (h : IsKept s es rs k) (e : Event)
    (accepted : refusal_of s e ≡ None) (room : k < MAX_EVENTS) (r : List Change) (delta : IsDelta s (after s e) r) where
  act_trail : Trail (led_back s (take k rs)) (take k es ++ e ∷ []) (take k rs ++ left s r ∷ []) (after s e)
  act_trail =
      trail_more (led_back s (take k rs)) (take k es) (take k rs) s h.done e (left s r) accepted
      (IsDelta-left s (after s e) r h.well_formed delta)

  module _ (l : List Change) (u : Cluster) (fs : List Event) (qs : List (List Change)) (made : u ≡ exchanged s r)
      (leaves : l ≡ left s r) (events : fs ≡ take k es ++ e ∷ []) (records : qs ≡ take k rs ++ l ∷ []) where
    event_count : length fs ≡ k + 1
    event_count = ap length events ∙ length-append (take k es) (e ∷ []) ∙ ap (λ n. n + 1) (length-take-le k es h.within)

    record_count : length qs ≡ k + 1
    record_count =
        ap length records ∙ length-append (take k rs) (l ∷ [])
        ∙ ap (λ n. n + 1) (length-take-le k rs (omega (arith, h.within, h.paired)))

    all_events : take (k + 1) fs ≡ take k es ++ e ∷ []
    all_events = take_all (k + 1) fs (omega (arith, event_count)) ∙ events

    all_records : take (k + 1) qs ≡ take k rs ++ left s r ∷ []
    all_records =
        take_all (k + 1) qs (omega (arith, record_count)) ∙ records
        ∙ ap (λ (q : List Change). take k rs ++ q ∷ []) leaves

    act_made : u ≡ after s e
    act_made = made ∙ delta.makes

    trail_now : Trail (led_back s (take k rs)) (take (k + 1) fs) (take (k + 1) qs) u
    trail_now =
        subst (λ (xs : List Event). Trail (led_back s (take k rs)) xs (take (k + 1) qs) u) (sym all_events)
        (subst (λ (ys : List (List Change)). Trail (led_back s (take k rs)) (take k es ++ e ∷ []) ys u)
        (sym all_records)
        (subst (λ (t : Cluster). Trail (led_back s (take k rs)) (take k es ++ e ∷ []) (take k rs ++ left s r ∷ []) t)
        (sym act_made) act_trail))

    opening_now : led_back u (take (k + 1) qs) ≡ led_back s (take k rs)
    opening_now = led_back-trail _ (take (k + 1) fs) _ _ trail_now

    -- an event is made, and what was undone is dropped
    pub act_keeps : IsKept u fs qs (k + 1)
    act_keeps = record {
      within = omega (arith, event_count);
      few = omega (arith, event_count);
      paired = record_count ∙ sym event_count;
      well_formed = subst IsWellFormed (sym made) delta.fits.well_formed;
      done = subst (λ (o : Cluster). Trail o (take (k + 1) fs) (take (k + 1) qs) u) (sym opening_now) trail_now;
      undone =
          subst (λ (xs : List Event). Ahead u xs (drop (k + 1) qs))
          (sym (drop_all (k + 1) fs (omega (arith, event_count))))
          (subst (λ (ys : List (List Change)). Ahead u [] ys) (sym (drop_all (k + 1) qs (omega (arith, record_count))))
          tt);
    }

    -- and the session is what the move makes of it
    pub act_moves : session_of u fs qs (k + 1) ≡ moved_session (session_of s es rs k) (Do e)
    act_moves =
        λ i.
        record {
          opening = opening_now i;
          done = all_events i;
          undone = drop_all (k + 1) fs (omega (arith, event_count)) i;
        }
