-- What answers an event, and loops over ledgers that list changes.
use Rattle.std.proofs.Common.{◌≡◌, ◌<◌, ◌+◌, ℕ, Bool, true, false, List, ◌∷◌, ◌++◌, ◌≤◌, length, get_or, drop, sym, ap}
use Rattle.std.proofs.Common.{subst, ◌∙◌}
use Rattle.std.specs.Prelude.{if◌then◌else◌, None, Some, Ok}
use Rattle.std.proofs.lemmas.List.{append-nil, drop_all, drop_more}
use Rattle.reh_types.specs.declared.changes.Change.TheVariants.{Task, Lock}
use Rattle.reh_model.specs.Cluster.{Cluster, Ledger, is_locked_by}
use Rattle.reh_model.specs.Audit.{is_news, published_members}
use Rattle.reh_types.specs.declared.moves.Event.{Event}
use Rattle.reh_types.specs.declared.moves.Event.TheVariants.{Audit, Expire}
use Rattle.reh_model.specs.WellFormed.{IsWellFormed}
use Rattle.reh_model.specs.Step.{refusal_of, after}
use Rattle.reh_model.specs.Places.{Change, IsDelta}
use Rattle.reh_scan.specs.declared.places.Found.{Found}
use Rattle.reh_scan.specs.Places.{IsFound}
use Rattle.reh_step.specs.Records.{IsRecordOf, IsDecision}
use Rattle.reh_model.proofs.DeltaLaws.{changes_where, lost_locks, expire_delta, news_tasks, audit_delta, stands}

-- an accepted event is answered by its record
pub decided : (s : Cluster) (event : Event) (made changes : List Change) → refusal_of s event ≡ None → changes ≡ made
    → IsRecordOf s event made → IsDecision s event (Ok changes)
decided s event made changes none is delta = record {
  accepted = none;
  delta = subst (λ (cs : List Change). IsRecordOf s event cs) (sym is) delta;
  err = tt;
}

-- the ledger that was found stands at its place
pub found_read : (s : Cluster) (l : ℕ) (found : Found) → IsFound s l found
    → found.ledger.now ≡ get_or s.parts.ledgers found.place found.ledger.now
found_read s l found is = (stands s l found.place found.ledger.now is.well_formed is.place is.ledger).read

-- the changes of the ledgers from place k on
abbrev changes_from : (Ledger → Bool) → (ℕ → Ledger → Change) → ℕ → List Ledger → List Change
changes_from test change k gs = changes_where test change k (drop k gs)

-- they begin with the one of the ledger that stands there
module _ (test : Ledger → Bool) (change : ℕ → Ledger → Change) (gs : List Ledger) (k : ℕ) (g : Ledger)
    (within : k < length gs) (is : g ≡ get_or gs k g) where
  abbrev more : Bool → List Change
  more b = let rest : List Change = changes_from test change (k + 1) gs in if b then change k g ∷ rest else rest

  opened : changes_from test change k gs ≡ more (test g)
  opened =
      ap (λ (hs : List Ledger). changes_where test change k hs)
      (drop_more gs k g within ∙ ap (λ (h : Ledger). h ∷ drop (k + 1) gs) (sym is))

  passed : test g ≡ true → changes_from test change k gs ≡ change k g ∷ changes_from test change (k + 1) gs
  passed passes = opened ∙ ap more passes

  failed : test g ≡ false → changes_from test change k gs ≡ changes_from test change (k + 1) gs
  failed fails = opened ∙ ap more fails

-- once no ledger is left, all changes are listed
all_listed : (test : Ledger → Bool) (change : ℕ → Ledger → Change) (gs : List Ledger) (k : ℕ) (list : List Change)
    → length gs ≤ k → changes_where test change 0 gs ≡ list ++ changes_where test change k (drop k gs)
    → list ≡ changes_where test change 0 gs
all_listed test change gs k list past is =
    sym (append-nil list)
    ∙ ap (λ (hs : List Ledger). list ++ changes_where test change k hs) (sym (drop_all k gs past)) ∙ sym is

-- a worker's locks from place k on
abbrev pub locks_from : ℕ → ℕ → List Ledger → List Change
locks_from w k gs = lost_locks w k (drop k gs)

module _ (w : ℕ) (gs : List Ledger) (k : ℕ) (g : Ledger) (within : k < length gs) (is : g ≡ get_or gs k g) where
  pub lock_lost : is_locked_by w g ≡ true → locks_from w k gs ≡ Lock k None ∷ locks_from w (k + 1) gs
  lock_lost = passed (is_locked_by w) (λ k g. Lock k None) gs k g within is

  pub lock_kept : is_locked_by w g ≡ false → locks_from w k gs ≡ locks_from w (k + 1) gs
  lock_kept = failed (is_locked_by w) (λ k g. Lock k None) gs k g within is

-- listed ledger by ledger, the locks that go with a worker's session are the difference
pub expire_listed : (s : Cluster) (w : ℕ) (gs : List Ledger) (k : ℕ) (list : List Change) → IsWellFormed s
    → refusal_of s (Expire w) ≡ None → gs ≡ s.parts.ledgers → length gs ≤ k
    → locks_from w 0 gs ≡ list ++ locks_from w k gs → IsDelta s (after s (Expire w)) list
expire_listed s w gs k list was none same past is =
    subst (λ (cs : List Change). IsDelta s (after s (Expire w)) cs)
    (ap (λ (hs : List Ledger). lost_locks w 0 hs) (sym same)
    ∙ sym (all_listed (is_locked_by w) (λ k g. Lock k None) gs k list past is))
    (expire_delta s w was none)

-- an audit's tasks from place k on
abbrev pub tasks_from : Cluster → ℕ → List Ledger → List Change
tasks_from s k gs = news_tasks s k (drop k gs)

module _ (s : Cluster) (gs : List Ledger) (k : ℕ) (g : Ledger) (within : k < length gs) (is : g ≡ get_or gs k g) where
  pub task_new : is_news s g ≡ true
      → tasks_from s k gs ≡ Task k (Some (published_members s g)) ∷ tasks_from s (k + 1) gs
  task_new = passed (is_news s) (λ k g. Task k (Some (published_members s g))) gs k g within is

  pub task_old : is_news s g ≡ false → tasks_from s k gs ≡ tasks_from s (k + 1) gs
  task_old = failed (is_news s) (λ k g. Task k (Some (published_members s g))) gs k g within is

-- listed ledger by ledger, the tasks that an audit changes are the difference
pub audit_listed : (s : Cluster) (gs : List Ledger) (k : ℕ) (list : List Change) → IsWellFormed s
    → refusal_of s Audit ≡ None → gs ≡ s.parts.ledgers → length gs ≤ k → tasks_from s 0 gs ≡ list ++ tasks_from s k gs
    → IsDelta s (after s Audit) list
audit_listed s gs k list was none same past is =
    subst (λ (cs : List Change). IsDelta s (after s Audit) cs)
    (ap (λ (hs : List Ledger). news_tasks s 0 hs) (sym same)
    ∙ sym (all_listed (is_news s) (λ k g. Task k (Some (published_members s g))) gs k list past is))
    (audit_delta s was none)
