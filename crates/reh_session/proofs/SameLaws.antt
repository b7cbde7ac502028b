-- Two sessions are equal exactly where state, cursor, events and the records of the surviving events are: a record is the
-- one difference between two clusters. The records of undone events follow from the state and these events.
use Rattle.std.proofs.Common.{◌≡◌, ◌∙◌, ℕ, Bool, List, [], ◌∷◌, ◌++◌, length, take, drop, sym, ap, subst, refl}
use Rattle.std.specs.Prelude.{◌↔◌, IsTrue}
use Rattle.std.proofs.lemmas.List.{length-take-le, take-append-drop}
use Rattle.reh_types.specs.declared.moves.Event.{Event}
use Rattle.reh_types.specs.Same.{told_by}
use Rattle.reh_model.specs.Cluster.{Cluster}
use Rattle.reh_model.specs.Places.{Change}
use Rattle.reh_model.specs.Step.{after}
use Rattle.reh_model.specs.Session.{Session}
use Rattle.reh_model.proofs.UniqueLaws.{IsDelta-unique}
use Rattle.reh_session.specs.Kept.{led_back, session_of, Trail, IsKept}

-- events from one cluster to another have one list of records that lead back over them
trails_unique : (s t : Cluster) (es : List Event) (rs qs : List (List Change)) → Trail s es rs t → Trail s es qs t
    → rs ≡ qs
trails_unique s t [] [] [] h k = refl
trails_unique s t [] [] (q ∷ qs) h k = absurd k
trails_unique s t [] (r ∷ rs) qs h k = absurd h
trails_unique s t (e ∷ es) [] qs h k = absurd h
trails_unique s t (e ∷ es) (r ∷ rs) [] h k = absurd k
trails_unique s t (e ∷ es) (r ∷ rs) (q ∷ qs) h k =
    let one : r ≡ q = IsDelta-unique (after s e) s r q h.1 k.1 in
    let rest : rs ≡ qs = trails_unique (after s e) t es rs qs h.2 k.2 in
    λ i. one i ∷ rest i

-- they lead to one cluster
trail_end : (s t u : Cluster) (es : List Event) (rs qs : List (List Change)) → Trail s es rs t → Trail s es qs u
    → t ≡ u
trail_end s t u [] [] [] h k = sym h ∙ k
trail_end s t u [] [] (q ∷ qs) h k = absurd k
trail_end s t u [] (r ∷ rs) qs h k = absurd h
trail_end s t u (e ∷ es) [] qs h k = absurd h
trail_end s t u (e ∷ es) (r ∷ rs) [] h k = absurd k
trail_end s t u (e ∷ es) (r ∷ rs) (q ∷ qs) h k = trail_end (after s e) t u es rs qs h.2 k.2

module _ (s t : Cluster) (es fs : List Event) (rs qs : List (List Change)) (j k : ℕ) where
  -- what equal sessions have in common
  pub record HaveSameParts : Type 0 where
    pub state : s ≡ t
    pub cursor : j ≡ k
    pub events : es ≡ fs
    pub records : take j rs ≡ take k qs

  pub sessions_are_parts : IsKept s es rs j → IsKept t fs qs k → session_of s es rs j ≡ session_of t fs qs k
      → HaveSameParts
  sessions_are_parts h m same =
      let opening : led_back s (take j rs) ≡ led_back t (take k qs) = ap (λ (x : Session). x.opening) same in
      let done : take j es ≡ take k fs = ap (λ (x : Session). x.done) same in
      let undone : drop j es ≡ drop k fs = ap (λ (x : Session). x.undone) same in
      let mine : Trail (led_back t (take k qs)) (take k fs) (take j rs) s =
      subst (λ (o : Cluster). Trail o (take k fs) (take j rs) s) opening
      (subst (λ (xs : List Event). Trail (led_back s (take j rs)) xs (take j rs) s) done h.done) in
      let state : s ≡ t = trail_end (led_back t (take k qs)) s t (take k fs) (take j rs) (take k qs) mine m.done in
      record {
        state = state;
        cursor = sym (length-take-le j es h.within) ∙ ap length done ∙ length-take-le k fs m.within;
        events = sym (take-append-drop j es) ∙ (λ i. done i ++ undone i) ∙ take-append-drop k fs;
        records =
            trails_unique (led_back t (take k qs)) t (take k fs) (take j rs) (take k qs)
            (subst (λ (u : Cluster). Trail (led_back t (take k qs)) (take k fs) (take j rs) u) state mine) m.done;
      }

  pub parts_make_sessions : HaveSameParts → session_of s es rs j ≡ session_of t fs qs k
  parts_make_sessions h = λ i.
      record {
        opening = led_back (h.state i) (h.records i);
        done = take (h.cursor i) (h.events i);
        undone = drop (h.cursor i) (h.events i);
      }

  -- where all else is the same, the records tell whether two sessions are
  pub told_by_records : IsKept s es rs j → IsKept t fs qs k → (xs ys : List (List Change)) (answer : Bool)
      → xs ≡ take j rs → ys ≡ take k qs → s ≡ t → j ≡ k → es ≡ fs → IsTrue answer ↔ (xs ≡ ys)
      → IsTrue answer ↔ (session_of s es rs j ≡ session_of t fs qs k)
  told_by_records h m xs ys answer mine others state cursor events told =
      told_by told
      (λ same. parts_make_sessions (record {
        state = state;
        cursor = cursor;
        events = events;
        records = sym mine ∙ same ∙ others;
      }))
      (λ same. mine ∙ (sessions_are_parts h m same).records ∙ sym others)
