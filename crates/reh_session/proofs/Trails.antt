-- Events with their records: where they lead, and one more or one less of them.
use Rattle.std.proofs.Common.{◌≡◌, ℕ, zero, suc, ◌≤◌, List, [], ◌∷◌, ◌++◌, length, take, drop, sym, ap, subst, ◌∙◌}
use Rattle.std.proofs.Common.{refl, arith, Some, None, IsSome, is_some, Option}
use Rattle.std.proofs.lemmas.List.{take_all}
use Rattle.reh_types.specs.declared.moves.Event.{Event}
use Rattle.reh_types.specs.declared.refusals.Refusal.{Refusal}
use Rattle.reh_model.specs.Cluster.{Cluster}
use Rattle.reh_model.specs.Places.{Change, exchanged, IsDelta}
use Rattle.reh_model.specs.Step.{refusal_of, after}
use Rattle.reh_model.specs.Session.{unless, replay}
use Rattle.reh_session.specs.Kept.{led_back, led_on, Trail, Ahead}

-- What is done

-- the records lead back to where the events began
pub led_back-trail : (s : Cluster) (es : List Event) (rs : List (List Change)) (t : Cluster) → Trail s es rs t
    → led_back t rs ≡ s
led_back-trail s [] [] t h = sym h
led_back-trail s (e ∷ es) (r ∷ rs) t h =
    ap (λ (u : Cluster). exchanged u r) (led_back-trail (after s e) es rs t h.2) ∙ h.1.makes
led_back-trail s [] (r ∷ rs) t h = absurd h
led_back-trail s (e ∷ es) [] t h = absurd h

-- the first k events can be replayed, and the records of the others lead back to where those lead
pub replay-trail-first : (s : Cluster) (es : List Event) (rs : List (List Change)) (t : Cluster) → Trail s es rs t
    → (k : ℕ) → k ≤ length es → replay s (take k es) ≡ Some (led_back t (drop k rs))
replay-trail-first s es rs t h zero within = ap Some (sym (led_back-trail s es rs t h))
replay-trail-first s (e ∷ es) (r ∷ rs) t h (suc k) within =
    ap (λ (x : Option Refusal). unless x (replay (after s e) (take k es))) h.0
    ∙ replay-trail-first (after s e) es rs t h.2 k (omega arith)
replay-trail-first s [] rs t h (suc k) within = absurd (omega arith)
replay-trail-first s (e ∷ es) [] t h (suc k) within = absurd h

-- all of them can
pub replay-trail : (s : Cluster) (es : List Event) (rs : List (List Change)) (t : Cluster) → Trail s es rs t
    → replay s es ≡ Some t
replay-trail s [] [] t h = ap Some h
replay-trail s (e ∷ es) (r ∷ rs) t h =
    ap (λ (x : Option Refusal). unless x (replay (after s e) es)) h.0 ∙ replay-trail (after s e) es rs t h.2
replay-trail s [] (r ∷ rs) t h = absurd h
replay-trail s (e ∷ es) [] t h = absurd h

-- one more
pub trail_more : (s : Cluster) (es : List Event) (rs : List (List Change)) (t : Cluster) → Trail s es rs t
    → (e : Event) (r : List Change) → refusal_of t e ≡ None → IsDelta (after t e) t r
    → Trail s (es ++ e ∷ []) (rs ++ r ∷ []) (after t e)
trail_more s [] [] t h e r accepted delta =
    subst (λ (u : Cluster). (refusal_of u e ≡ None) × IsDelta (after u e) u r × (after u e ≡ after t e)) (sym h)
    (accepted, delta, refl)
trail_more s (d ∷ es) (q ∷ rs) t h e r accepted delta =
    (h.0, h.1, trail_more (after s d) es rs t h.2 e r accepted delta)
trail_more s [] (q ∷ rs) t h e r accepted delta = absurd h
trail_more s (d ∷ es) [] t h e r accepted delta = absurd h

-- one less: the last record leads back over the last event
pub record IsLast (s : Cluster) (es : List Event) (rs : List (List Change)) (e : Event) (r : List Change)
    (t : Cluster) : Type 0 where
  pub before : Trail s es rs (exchanged t r)
  pub accepted : refusal_of (exchanged t r) e ≡ None
  pub delta : IsDelta t (exchanged t r) r
  pub made : after (exchanged t r) e ≡ t

pub trail_less : (s : Cluster) (es : List Event) (rs : List (List Change)) (e : Event) (r : List Change) (t : Cluster)
    → Trail s (es ++ e ∷ []) (rs ++ r ∷ []) t → IsLast s es rs e r t
trail_less s [] [] e r t h =
    let back : exchanged t r ≡ s = ap (λ (u : Cluster). exchanged u r) (sym h.2) ∙ h.1.makes in
    record {
      before = sym back;
      accepted = subst (λ (u : Cluster). refusal_of u e ≡ None) (sym back) h.0;
      delta = subst (λ (u : Cluster). IsDelta t u r) (sym back) (subst (λ (u : Cluster). IsDelta u s r) h.2 h.1);
      made = ap (λ (u : Cluster). after u e) back ∙ h.2;
    }
trail_less s (d ∷ es) (q ∷ rs) e r t h =
    let rest : IsLast (after s d) es rs e r t = trail_less (after s d) es rs e r t h.2 in
    record {
      before = (h.0, h.1, rest.before);
      accepted = rest.accepted;
      delta = rest.delta;
      made = rest.made;
    }
trail_less s [] (q ∷ []) e r t h = absurd h.2
trail_less s [] (q ∷ p ∷ rs) e r t h = absurd h.2
trail_less s (d ∷ []) [] e r t h = absurd h.2
trail_less s (d ∷ c ∷ es) [] e r t h = absurd h.2

-- What lies ahead

-- the first k events can be replayed, and their records lead on to where they lead
pub replay-ahead-first : (s : Cluster) (es : List Event) (rs : List (List Change)) → Ahead s es rs → (k : ℕ)
    → k ≤ length es → replay s (take k es) ≡ Some (led_on s (take k rs))
replay-ahead-first s es rs h zero within = refl
replay-ahead-first s (e ∷ es) (r ∷ rs) h (suc k) within =
    ap (λ (x : Option Refusal). unless x (replay (after s e) (take k es))) h.0
    ∙ replay-ahead-first (after s e) es rs h.2 k (omega arith)
    ∙ ap (λ (t : Cluster). Some (led_on t (take k rs))) (sym h.1.makes)
replay-ahead-first s [] rs h (suc k) within = absurd (omega arith)
replay-ahead-first s (e ∷ es) [] h (suc k) within = absurd h

-- all of them can
pub replay-ahead : (s : Cluster) (es : List Event) (rs : List (List Change)) → Ahead s es rs → IsSome (replay s es)
replay-ahead s es rs h =
    ap is_some
    (ap (replay s) (sym (take_all (length es) es (omega arith)))
    ∙ replay-ahead-first s es rs h (length es) (omega arith))
