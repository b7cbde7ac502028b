-- Who takes places, event by event, as a session undoes its events and makes them again.
use Rattle.std.proofs.Common.{◌≡◌, ◌∙◌, ℕ, ◌+◌, ◌-◌, ◌<◌, ◌≤◌, Bool, List, [], ◌∷◌, ◌++◌, Option, Some, ap, append_assoc, arith, drop, get_or, inl, inr, is_some, length, length-append, refl, subst, sym, take}
use Rattle.std.specs.Prelude.{IsSomeAnd, IsTrue, slice_get}
use Rattle.std.specs.Option.{option_map_or}
use Rattle.std.proofs.lemmas.Bool.{cases_eq}
use Rattle.std.proofs.lemmas.List.{length-take-le, take-append-drop, take_at}
use Rattle.std.proofs.lemmas.Option.{same_Some}
use Rattle.reh_types.specs.declared.moves.Event.{Event}
use Rattle.reh_types.specs.declared.moves.Move.TheVariants.{Redo, Undo}
use Rattle.reh_types.specs.declared.moves.Reply.{Reply}
use Rattle.reh_types.specs.declared.refusals.Refusal.TheVariants.{NothingToRedo, NothingToUndo}
use Rattle.reh_model.specs.Cluster.{Cluster, Ledger, is_up}
use Rattle.reh_model.specs.Metadata.{Fragment, Metadata}
use Rattle.reh_model.specs.Session.{Answers, Session, moved_session, replay, session_after}
use Rattle.reh_model.specs.Step.{after}
use Rattle.reh_model.specs.WellFormed.{IsWellFormed}
use Rattle.reh_model.proofs.SessionLaws.{replay_first, reply_unless-some}
use Rattle.reh_model.proofs.WellFormedLaws.{up_named}
use Rattle.reh_plan.specs.Racks.{Racks, lacking}
use Rattle.reh_plan.specs.Takers.{AreWellTaken, IsWellTaken, LacksLeast, LacksLeastAt, could_take}
use Rattle.reh_plan.specs.Workers.{can_work}
use Rattle.reh_plan.proofs.FilledLaws.{second_true}
use Rattle.reh_plan.proofs.PlanLaws.{first_true}

-- One place

-- it is enough to look at the bookies of the picture, as no other is registered
pub least_of_named : (may : ℕ → Bool) (r : Racks) (s : Cluster) (m : Metadata) (f : Fragment) (i b : ℕ) → IsWellFormed s
    → ((other : ℕ) → other < length s.names → IsTrue (could_take may s f other)
    → lacking r m f i b ≤ lacking r m f i other)
    → LacksLeast may r s m f i b
least_of_named may r s m f i b well below other could =
    below other
    (up_named s other well (second_true (may other) (is_up s other) (first_true (can_work may s other) _ could)))
    could

-- where no write set lacks racks, none lacks fewer
pub least_of_none : (may : ℕ → Bool) (r : Racks) (s : Cluster) (m : Metadata) (f : Fragment) (i b : ℕ)
    → lacking r m f i b ≡ 0 → LacksLeast may r s m f i b
least_of_none may r s m f i b none other could = omega (arith, none)

pub least_at : (may : ℕ → Bool) (r : Racks) (s : Cluster) (g : Ledger) (f i b : ℕ) (fragment : Fragment)
    → slice_get g.metadata.fragments f ≡ Some fragment → LacksLeast may r s g.metadata fragment i b
    → LacksLeastAt may r s g f i b
least_at may r s g f i b fragment there least =
    subst (λ (o : Option Fragment). IsSomeAnd o (λ x. LacksLeast may r s g.metadata x i b)) (sym there) least

pub lacking_there : (r : Racks) (m : Metadata) (f i b n : ℕ) (fragment : Fragment) → slice_get m.fragments f ≡ Some fragment
    → n ≡ option_map_or (λ x. lacking r m x i b) (slice_get m.fragments f) 0 → n ≡ lacking r m fragment i b
lacking_there r m f i b n fragment there is = is ∙ ap (λ o. option_map_or (λ x. lacking r m x i b) o 0) there

-- one bookie more is passed
pub passed_more : (P : ℕ → Type 0) (n : ℕ) → ((k : ℕ) → k < n → P k) → P n → (k : ℕ) → k < n + 1 → P k
passed_more P n below here k within = elim (cases_eq k n) [
  | inl same ↦ subst P (sym same) here
  | inr apart ↦ below k (omega arith)
]

-- Events

-- more events after some
taken-append : (may : ℕ → Bool) (r : Racks) (s t : Cluster) (es fs : List Event) → replay s es ≡ Some t
    → AreWellTaken may r s es → AreWellTaken may r t fs → AreWellTaken may r s (es ++ fs)
taken-append may r s t [] fs is first then =
    subst (λ (c : Cluster). AreWellTaken may r c fs) (sym (same_Some s t is)) then
taken-append may r s t (e ∷ es) fs is first then =
    (first.0, taken-append may r (after s e) t es fs (sym (replay_first s e es (ap is_some is)).1 ∙ is) first.1 then)

take_one : (es : List Event) (event : Event) → 1 ≤ length es → event ≡ get_or es 0 event → take 1 es ≡ event ∷ []
take_one [] event some is = absurd (omega (arith, some))
take_one (e ∷ es) event some is = ap (λ (x : Event). x ∷ []) (sym is)

-- the first of others after some
pub taken-next : (may : ℕ → Bool) (r : Racks) (s t : Cluster) (es others : List Event) (event : Event)
    → replay s es ≡ Some t → 1 ≤ length others → event ≡ get_or others 0 event → IsWellTaken may r t event
    → AreWellTaken may r s es → AreWellTaken may r s (es ++ take 1 others)
taken-next may r s t es others event now some is well first =
    subst (λ (us : List Event). AreWellTaken may r s (es ++ us)) (sym (take_one others event some is))
    (taken-append may r s t es (event ∷ []) now first (well, tt))

-- Sessions

-- an event that can be undone is undone
pub undone_by : (m n : Session) (r : Reply) → 0 < length m.done → Answers m Undo r n → n ≡ moved_session m Undo
undone_by m n r some answers =
    answers.1
    ∙ ap (λ (x : Reply). session_after m Undo x) (answers.0 ∙ reply_unless-some (length m.done) NothingToUndo some)

-- and one that can be made again is
pub redone_by : (m n : Session) (r : Reply) → 0 < length m.undone → Answers m Redo r n → n ≡ moved_session m Redo
redone_by m n r some answers =
    answers.1
    ∙ ap (λ (x : Reply). session_after m Redo x) (answers.0 ∙ reply_unless-some (length m.undone) NothingToRedo some)

-- all events, whether they survive or are undone, oldest first
abbrev pub all_events : Session → List Event
all_events m = m.done ++ m.undone

pub all-undo : (m : Session) → all_events (moved_session m Undo) ≡ all_events m
all-undo m =
    sym (append_assoc (take (length m.done - 1) m.done) (drop (length m.done - 1) m.done) m.undone)
    ∙ ap (λ (es : List Event). es ++ m.undone) (take-append-drop (length m.done - 1) m.done)

pub all-redo : (m : Session) → all_events (moved_session m Redo) ≡ all_events m
all-redo m =
    append_assoc m.done (take 1 m.undone) (drop 1 m.undone)
    ∙ ap (λ (es : List Event). m.done ++ es) (take-append-drop 1 m.undone)

pub fewer-undo : (m : Session) → 0 < length m.done → length (moved_session m Undo).done < length m.done
fewer-undo m some =
    let left : length (take (length m.done - 1) m.done) ≡ length m.done - 1 =
    length-take-le (length m.done - 1) m.done (omega arith) in
    omega (arith, some, left)

pub more-redo : (m : Session) → 0 < length m.undone → length (moved_session m Redo).done ≡ length m.done + 1
more-redo m some =
    length-append m.done (take 1 m.undone)
    ∙ ap (λ n. length m.done + n) (length-take-le 1 m.undone (omega (arith, some)))

-- where as many survive as before, it is the same ones
pub same_done : (m n : Session) → all_events m ≡ all_events n → length m.done ≡ length n.done → m.done ≡ n.done
same_done m n same long =
    sym (take_at m.done m.undone (length n.done) long)
    ∙ ap (take (length n.done)) same
    ∙ take_at n.done n.undone (length n.done) refl

pub none_done : (es : List Event) → length es ≡ 0 → es ≡ []
none_done [] none = refl
none_done (e ∷ es) none = absurd (omega (arith, none))

-- some event can be made again, while fewer survive than did
pub some_undone : (m n : Session) → all_events m ≡ all_events n → length m.done < length n.done → 0 < length m.undone
some_undone m n same fewer =
    let long : length m.done + length m.undone ≡ length n.done + length n.undone =
    sym (length-append m.done m.undone) ∙ ap length same ∙ length-append n.done n.undone in
    omega (arith, long, fewer)
