-- The record of each accepted event but a copy and a seal is the difference of the cluster before and after it.
use Rattle.std.proofs.Common.{◌≡◌, ◌≢◌, ◌<◌, ◌+◌, ◌-◌, ℕ, Bool, true, false, true≢false, List, [], ◌∷◌, ◌++◌, length, map, get_or, Option, None, Some, refl, sym, ap, subst, ◌∙◌, arith, inl, inr, is_some, ◌≤◌}
use Rattle.std.specs.Prelude.{All, is_none, position, ◌==◌, slice_get, if◌then◌else◌}
use Rattle.std.specs.Option.{option_and_then, option_map, option_map_or}
use Rattle.std.proofs.lemmas.Bool.Decides.{nat_tests}
use Rattle.std.proofs.lemmas.List.{append_assoc, length-append}
use Rattle.std.proofs.lemmas.List.Elements.{All-nil, All-cons, All-map}
use Rattle.std.proofs.lemmas.Option.{slice_get_within, get_or_from_slice_get}
use Rattle.reh_types.specs.declared.locks.Lock as locks
use Rattle.reh_types.specs.declared.changes.Change.TheVariants.{Registration, Metadata, Task, Lock, Scalar}
use Rattle.reh_types.specs.declared.scalars.Scalar.TheVariants.{Clock, Enabled}
use Rattle.reh_types.specs.declared.moves.Event.TheVariants.{Lose, Join, Audit, Acquire, Release, Finish, Expire, Grace, Tick, Roll, Fence, Seal, Swap, Disable, Enable}
use Rattle.reh_types.specs.declared.names.LedgerState.TheVariants.{InRecovery}
use Rattle.reh_model.specs.Metadata as meta
use Rattle.reh_model.specs.Metadata.{next_version, with_member_at, with_fragment_at, with_state}
use Rattle.reh_model.specs.Cluster.{Cluster, Ledger, change_at, ledger_at, change_ledger, is_up, is_locked_by, due_of, with_ledgers}
use Rattle.reh_model.specs.Recovery.{next_entry, is_rolling_over}
use Rattle.reh_model.specs.Audit.{is_news, published_members, audited_ledger}
use Rattle.reh_model.specs.WellFormed.{IsWellFormed}
use Rattle.reh_model.specs.Step.{refusal_of, after, locked_ledger, unlocked_ledger, finished_ledger, expired_ledger, swapped_ledger, timed_lock, with_due, graced_ledger, rolled_metadata, rolled_ledger, fenced_ledger}
use Rattle.reh_model.specs.Refusals.{still_under, not_open, not_needed, grace_set}
use Rattle.reh_model.specs.Places.{Change, Place, at_metadata, at_task, at_lock, place_of, IsBefore, AreRising, exchanged, IsThere, IsDelta}
use Rattle.reh_model.specs.Records.{due_gone}
use Rattle.reh_model.proofs.LedgerLaws.{change_ledger-set, found_there, ledger_at-position}
use Rattle.reh_model.proofs.ListLaws.{set-read, change_at-then, change_at-here, change_at-front, slice_get-here, slice_get-front, slice_get-put}
use Rattle.reh_model.proofs.AuditLaws.{audited_news, audited_same, news_differs}
use Rattle.reh_model.proofs.AcceptedLaws.{IsRollable, IsFenceable, IsSealable, IsSwappable, accepted_lose, accepted_join, accepted_tick, accepted_disable, accepted_enable, accepted_free, accepted_owner, accepted_grace, accepted_roll, accepted_fence, accepted_seal}
use Rattle.reh_model.proofs.WellFormedLaws.{IsLedgerOf, IsLedger-found, next_entry-within, swappable-found, up_named}
use Rattle.reh_model.proofs.EventLaws.{IsWellFormed-after}
use Rattle.reh_model.proofs.ExchangeLaws.{Differs, delta_of_changes}

-- Records of one change

-- one change that makes the cluster after it, and a difference
one_change : (s t : Cluster) (c : Change) → IsWellFormed t → IsThere s c → exchanged s (c ∷ []) ≡ t → Differs s.parts c → IsDelta s t (c ∷ [])
one_change s t c well there makes differs =
    delta_of_changes s t (c ∷ []) well (All-nil (IsBefore (place_of c)), tt) (All-cons (IsThere s) c [] there (All-nil (IsThere s))) makes
    (All-cons (Differs s.parts) c [] differs (All-nil (Differs s.parts)))

-- a bookie that is lost
pub lose_delta : (s : Cluster) (b : ℕ) → IsWellFormed s → refusal_of s (Lose b) ≡ None → IsDelta s (after s (Lose b)) (Registration b (Some s.parts.scalars.clock) ∷ [])
lose_delta s b was none =
    let up : is_up s b ≡ true = accepted_lose s b none in
    let there : b < length s.parts.lost_at = omega (arith, up_named s b was up, was.registrations.each) in
    one_change s (after s (Lose b)) (Registration b (Some s.parts.scalars.clock)) (IsWellFormed-after s (Lose b) was none) there refl
    (λ same. true≢false (sym up ∙ ap (λ (o : Option (Option ℕ)). option_map_or is_none o false) (same ∙ slice_get-put (Some s.parts.scalars.clock) s.parts.lost_at b there)))

-- a bookie that joins
pub join_delta : (s : Cluster) (b : ℕ) → IsWellFormed s → refusal_of s (Join b) ≡ None → IsDelta s (after s (Join b)) (Registration b None ∷ [])
join_delta s b was none =
    let may : (b < length s.names) × (is_up s b ≡ false) = accepted_join s b none in
    let there : b < length s.parts.lost_at = omega (arith, may.0, was.registrations.each) in
    one_change s (after s (Join b)) (Registration b None) (IsWellFormed-after s (Join b) was none) there refl
    (λ same. true≢false (sym (ap (λ (o : Option (Option ℕ)). option_map_or is_none o false) (same ∙ slice_get-put None s.parts.lost_at b there)) ∙ may.1))

-- ticks
pub tick_delta : (s : Cluster) (n : ℕ) → IsWellFormed s → refusal_of s (Tick n) ≡ None → IsDelta s (after s (Tick n)) (Scalar (Clock (s.parts.scalars.clock + n)) ∷ [])
tick_delta s n was none =
    one_change s (after s (Tick n)) (Scalar (Clock (s.parts.scalars.clock + n))) (IsWellFormed-after s (Tick n) was none) tt refl
    (λ same.
    let told : Clock s.parts.scalars.clock ≡ Clock (s.parts.scalars.clock + n) = same (Clock 0) refl in
    let stays : s.parts.scalars.clock ≡ s.parts.scalars.clock + n = cc in
    absurd (omega (arith, stays, (accepted_tick s n none).0)))

-- AutoRecovery is disabled,
pub disable_delta : (s : Cluster) → IsWellFormed s → refusal_of s Disable ≡ None → IsDelta s (after s Disable) (Scalar (Enabled false) ∷ [])
disable_delta s was none =
    one_change s (after s Disable) (Scalar (Enabled false)) (IsWellFormed-after s Disable was none) tt refl
    (λ same.
    let told : Enabled s.parts.scalars.enabled ≡ Enabled false = same (Enabled false) refl in
    let stays : s.parts.scalars.enabled ≡ false = cc in
    true≢false (sym (accepted_disable s none) ∙ stays))

-- and enabled
pub enable_delta : (s : Cluster) → IsWellFormed s → refusal_of s Enable ≡ None → IsDelta s (after s Enable) (Scalar (Enabled true) ∷ [])
enable_delta s was none =
    one_change s (after s Enable) (Scalar (Enabled true)) (IsWellFormed-after s Enable was none) tt refl
    (λ same.
    let told : Enabled s.parts.scalars.enabled ≡ Enabled true = same (Enabled true) refl in
    let stays : s.parts.scalars.enabled ≡ true = cc in
    true≢false (sym stays ∙ accepted_enable s none))

-- One ledger

-- another part of a ledger that stands there
pub part_differs : {C : Type 0} (part : Ledger → C) (change : Ledger → Ledger) (gs : List Ledger) (k : ℕ) (g : Ledger) → slice_get gs k ≡ Some g → part g ≢ part (change g)
    → option_map part (slice_get gs k) ≢ option_map part (slice_get (change_at gs k change) k)
part_differs {C = C} part change gs k g here other same =
    let parts : ◌≡◌ {A = Option C} (Some (part g)) (Some (part (change g))) = sym (ap (option_map part) here) ∙ same ∙ ap (option_map part) (slice_get-here change gs k ∙ ap (option_map change) here) in
    other cc

-- the ledger of that id stands at that place, and its change is one at the place
pub record Stands (s : Cluster) (l k : ℕ) (g : Ledger) : Type 0 where
  pub there : k < length s.parts.ledgers
  pub here : slice_get s.parts.ledgers k ≡ Some g
  pub read : g ≡ get_or s.parts.ledgers k g
  pub changed : (change : Ledger → Ledger) → with_ledgers s (change_at s.parts.ledgers k change) ≡ change_ledger s l change

pub stands : (s : Cluster) (l k : ℕ) (g : Ledger) → IsWellFormed s → position (λ g. g.id == l) s.parts.ledgers ≡ Some k → ledger_at s l ≡ Some g → Stands s l k g
stands s l k g was is found =
    let here : slice_get s.parts.ledgers k ≡ Some g = found_there l k s.parts.ledgers g is found in
    let read : g ≡ get_or s.parts.ledgers k g = sym (get_or_from_slice_get s.parts.ledgers k g g here) in
    record {
      there = slice_get_within s.parts.ledgers k g here;
      here = here;
      read = read;
      changed = λ change. ap (with_ledgers s) (sym (set-read change s.parts.ledgers k g read)) ∙ change_ledger-set s l change k g (change g) was.ledgers.different is read refl;
    }

-- a worker's ledger is locked
locked_some : (w : ℕ) (g : Ledger) → is_locked_by w g ≡ true → g.lock ≢ None
locked_some w g is none = true≢false (sym is ∙ ap (λ (o : Option locks.Lock). option_map_or (λ lock. lock.owner == w) o false) none)

-- so it has a task
locked_task : (s : Cluster) (w : ℕ) (g : Ledger) → IsLedgerOf s g → is_locked_by w g ≡ true → g.task ≢ None
locked_task s w g was is none =
    elim g.lock as (λ o. g.lock ≡ o → option_map_or (λ lock. lock.owner == w) o false ≡ true → ⊥) [
      | None ↦ λ _ is. true≢false (sym is)
      | Some lock ↦ λ held _. true≢false (sym (was.lock lock held).1 ∙ ap is_some none)
    ] refl is

-- a worker locks a ledger's task
pub acquire_delta : (s : Cluster) (w l k : ℕ) → IsWellFormed s → position (λ g. g.id == l) s.parts.ledgers ≡ Some k → refusal_of s (Acquire w l) ≡ None → IsDelta s (after s (Acquire w l)) (Lock k (Some (record { owner = w; due = None })) ∷ [])
acquire_delta s w l k was is none =
    let free : (g : Ledger) × (ledger_at s l ≡ Some g) × (g.lock ≡ None) = accepted_free s w l none in
    let place : Stands s l k free.0 = stands s l k free.0 was is free.1 in
    one_change s (after s (Acquire w l)) (Lock k (Some (record { owner = w; due = None }))) (IsWellFormed-after s (Acquire w l) was none) place.there (place.changed (locked_ledger w))
    (part_differs (λ g. g.lock) (locked_ledger w) s.parts.ledgers k free.0 place.here (λ same. let locked : None ≡ (locked_ledger w free.0).lock = sym free.2 ∙ same in cc))

-- it gives the lock back
pub release_delta : (s : Cluster) (w l k : ℕ) → IsWellFormed s → position (λ g. g.id == l) s.parts.ledgers ≡ Some k → refusal_of s (Release w l) ≡ None → IsDelta s (after s (Release w l)) (Lock k None ∷ [])
release_delta s w l k was is none =
    let owned : (g : Ledger) × (ledger_at s l ≡ Some g) × (is_locked_by w g ≡ true) = accepted_owner s w l (λ g. []) none in
    let place : Stands s l k owned.0 = stands s l k owned.0 was is owned.1 in
    one_change s (after s (Release w l)) (Lock k None) (IsWellFormed-after s (Release w l) was none) place.there (place.changed unlocked_ledger)
    (part_differs (λ g. g.lock) unlocked_ledger s.parts.ledgers k owned.0 place.here (locked_some w owned.0 owned.2))

-- it ends the task
pub finish_delta : (s : Cluster) (w l k : ℕ) → IsWellFormed s → position (λ g. g.id == l) s.parts.ledgers ≡ Some k → refusal_of s (Finish w l) ≡ None → IsDelta s (after s (Finish w l)) (Task k None ∷ Lock k None ∷ [])
finish_delta s w l k was is none =
    let owned : (g : Ledger) × (ledger_at s l ≡ Some g) × (is_locked_by w g ≡ true) = accepted_owner s w l (λ g. still_under s g ∷ []) none in
    let place : Stands s l k owned.0 = stands s l k owned.0 was is owned.1 in
    let differs : Change → Type 0 = Differs s.parts in
    delta_of_changes s (after s (Finish w l)) (Task k None ∷ Lock k None ∷ []) (IsWellFormed-after s (Finish w l) was none)
    (All-cons (IsBefore (at_task k)) (at_lock k) [] (inl (omega arith)) (All-nil (IsBefore (at_task k))), (All-nil (IsBefore (at_lock k)), tt))
    (All-cons (IsThere s) (Task k None) (Lock k None ∷ []) place.there (All-cons (IsThere s) (Lock k None) [] place.there (All-nil (IsThere s))))
    (ap (with_ledgers s) (change_at-then (λ g. record g { task = None }) unlocked_ledger s.parts.ledgers k) ∙ place.changed finished_ledger)
    (All-cons differs (Task k None) (Lock k None ∷ []) (part_differs (λ g. g.task) (λ g. record g { task = None }) s.parts.ledgers k owned.0 place.here (locked_task s w owned.0 (IsLedger-found s l owned.0 was owned.1) owned.2))
    (All-cons differs (Lock k None) [] (part_differs (λ g. g.lock) unlocked_ledger s.parts.ledgers k owned.0 place.here (locked_some w owned.0 owned.2)) (All-nil differs)))

-- it puts its bookie into an ensemble
pub swap_delta : (s : Cluster) (w l f i v k : ℕ) (g : Ledger) (m : meta.Metadata) → IsWellFormed s → position (λ g. g.id == l) s.parts.ledgers ≡ Some k → g ≡ get_or s.parts.ledgers k g → m ≡ next_version (with_member_at g.metadata f i w)
    → refusal_of s (Swap w l f i v) ≡ None → IsDelta s (after s (Swap w l f i v)) (Metadata k m ∷ [])
swap_delta s w l f i v k g m was is read made none =
    let place : Stands s l k g = stands s l k g was is (ledger_at-position s l k g was.ledgers.different is read) in
    let change : Ledger → Ledger = λ x. record x { metadata = m } in
    one_change s (after s (Swap w l f i v)) (Metadata k m) (IsWellFormed-after s (Swap w l f i v) was none) place.there
    (ap (with_ledgers s) (change_at-here change (swapped_ledger f i w) s.parts.ledgers k g read (ap (λ (m : meta.Metadata). record g { metadata = m }) made)) ∙ place.changed (swapped_ledger f i w))
    (part_differs (λ g. g.metadata) change s.parts.ledgers k g place.here (λ same. absurd (omega (arith, ap (λ (m : meta.Metadata). m.version) (same ∙ made)))))

-- its lock gets a due tick
timed : (w : ℕ) (due : Option ℕ) (o : Option locks.Lock) → option_map_or (λ lock. lock.owner == w) o false ≡ true → ◌≡◌ {A = Option locks.Lock} (Some (record { owner = w; due = due })) (option_map (timed_lock due) o)
timed w due None is = cc
timed w due (Some lock) is = let same : lock.owner ≡ w = grind (arith, nat_tests, is) in ap (λ n. Some (record lock { owner = n; due = due })) (sym same)

pub grace_delta : (s : Cluster) (w l k : ℕ) → IsWellFormed s → position (λ g. g.id == l) s.parts.ledgers ≡ Some k → refusal_of s (Grace w l) ≡ None → IsDelta s (after s (Grace w l)) (Lock k (Some (record { owner = w; due = Some (s.parts.scalars.clock + s.grace) })) ∷ [])
grace_delta s w l k was is none =
    let owned : (g : Ledger) × (ledger_at s l ≡ Some g) × (is_locked_by w g ≡ true) = accepted_owner s w l (λ g. not_open g ∷ not_needed s g ∷ grace_set g ∷ []) none in
    let g : Ledger = owned.0 in
    let due : Option ℕ = Some (s.parts.scalars.clock + s.grace) in
    let lock : Option locks.Lock = Some (record { owner = w; due = due }) in
    let place : Stands s l k g = stands s l k g was is owned.1 in
    let change : Ledger → Ledger = λ x. record x { lock = lock } in
    one_change s (after s (Grace w l)) (Lock k lock) (IsWellFormed-after s (Grace w l) was none) place.there
    (ap (with_ledgers s) (change_at-here change (graced_ledger (s.parts.scalars.clock + s.grace)) s.parts.ledgers k g place.read (ap (λ (o : Option locks.Lock). record g { lock = o }) (timed w due g.lock owned.2)))
    ∙ place.changed (graced_ledger (s.parts.scalars.clock + s.grace)))
    (part_differs (λ g. g.lock) change s.parts.ledgers k g place.here (λ same. let set : due_of g ≡ due = ap (λ (o : Option locks.Lock). option_and_then (λ lock. lock.due) o) same in let unset : due_of g ≡ None = (accepted_grace s w l g owned.1 none).unset in cc))

-- a lock without a due tick stays
undue_lock : (o : Option locks.Lock) → option_and_then (λ lock. lock.due) o ≡ None → option_map (timed_lock None) o ≡ o
undue_lock None none = refl
undue_lock (Some lock) none = ap (λ (due : Option ℕ). Some (record lock { due = due })) (sym none)

no_due : (o : Option locks.Lock) → option_and_then (λ lock. lock.due) (option_map (timed_lock None) o) ≡ None
no_due None = refl
no_due (Some lock) = refl

-- a ledger's metadata goes to a next version, and its lock's due tick goes
pub undue_delta : (s : Cluster) (l k : ℕ) (g : Ledger) (m : meta.Metadata) (change : Ledger → Ledger) → IsWellFormed s → position (λ g. g.id == l) s.parts.ledgers ≡ Some k → g ≡ get_or s.parts.ledgers k g → m.version ≡ g.metadata.version + 1
    → record (with_due None g) { metadata = m } ≡ change g → IsWellFormed (change_ledger s l change) → IsDelta s (change_ledger s l change) (Metadata k m ∷ due_gone k g)
undue_delta s l k g m change was is read later made well = dated (due_of g) refl where
  place : Stands s l k g
  place = stands s l k g was is (ledger_at-position s l k g was.ledgers.different is read)

  differs : Change → Type 0
  differs = Differs s.parts

  renewed : Ledger → Ledger
  renewed x = record x { metadata = m }

  freed : Ledger → Ledger
  freed x = record x { lock = option_map (timed_lock None) g.lock }

  renews : Differs s.parts (Metadata k m)
  renews = part_differs (λ g. g.metadata) renewed s.parts.ledgers k g place.here (λ same. absurd (omega (arith, later, ap (λ (m : meta.Metadata). m.version) same)))

  dated : (due : Option ℕ) → due_of g ≡ due → IsDelta s (change_ledger s l change) (Metadata k m ∷ option_map_or (λ due. Lock k (option_map (timed_lock None) g.lock) ∷ []) due [])
  dated None none =
      one_change s (change_ledger s l change) (Metadata k m) well place.there
      (ap (with_ledgers s) (change_at-here renewed change s.parts.ledgers k g read (ap (λ (o : Option locks.Lock). record g { metadata = m; lock = o }) (sym (undue_lock g.lock none)) ∙ made)) ∙ place.changed change)
      renews
  dated (Some due) set =
      delta_of_changes s (change_ledger s l change) (Metadata k m ∷ Lock k (option_map (timed_lock None) g.lock) ∷ []) well
      (All-cons (IsBefore (at_metadata k)) (at_lock k) [] (inl (omega arith)) (All-nil (IsBefore (at_metadata k))), (All-nil (IsBefore (at_lock k)), tt))
      (All-cons (IsThere s) (Metadata k m) (Lock k (option_map (timed_lock None) g.lock) ∷ []) place.there (All-cons (IsThere s) (Lock k (option_map (timed_lock None) g.lock)) [] place.there (All-nil (IsThere s))))
      (ap (with_ledgers s) (change_at-then renewed freed s.parts.ledgers k ∙ change_at-here (λ x. freed (renewed x)) change s.parts.ledgers k g read made) ∙ place.changed change)
      (All-cons differs (Metadata k m) (Lock k (option_map (timed_lock None) g.lock) ∷ []) renews
      (All-cons differs (Lock k (option_map (timed_lock None) g.lock)) [] (part_differs (λ g. g.lock) freed s.parts.ledgers k g place.here (λ same.
      let unset : due_of g ≡ None = ap (λ (o : Option locks.Lock). option_and_then (λ lock. lock.due) o) same ∙ no_due g.lock in cc)) (All-nil differs)))

-- the writer puts a bookie into the last ensemble
pub roll_delta : (s : Cluster) (l i b k : ℕ) (g : Ledger) (m : meta.Metadata) → IsWellFormed s → position (λ g. g.id == l) s.parts.ledgers ≡ Some k → g ≡ get_or s.parts.ledgers k g → m ≡ next_version (rolled_metadata s i b g)
    → refusal_of s (Roll l i b) ≡ None → IsDelta s (after s (Roll l i b)) (Metadata k m ∷ due_gone k g)
roll_delta s l i b k g m was is read made none =
    undue_delta s l k g m (rolled_ledger s i b) was is read (ap (λ (m : meta.Metadata). m.version) made ∙ rolled-version s i b g) (ap (λ (m : meta.Metadata). record (with_due None g) { metadata = m }) made) (IsWellFormed-after s (Roll l i b) was none)
  where
    rolled-version : (s : Cluster) (i b : ℕ) (g : Ledger) → (next_version (rolled_metadata s i b g)).version ≡ g.metadata.version + 1
    rolled-version s i b g = elim (is_rolling_over s g) as (λ over. (if over then with_fragment_at g.metadata (next_entry s g) i b else with_member_at g.metadata (length g.metadata.fragments - 1) i b).version + 1 ≡ g.metadata.version + 1) [ true ↦ refl | false ↦ refl ]

-- a worker fences its ledger
pub fence_delta : (s : Cluster) (w l k : ℕ) (g : Ledger) (m : meta.Metadata) → IsWellFormed s → position (λ g. g.id == l) s.parts.ledgers ≡ Some k → g ≡ get_or s.parts.ledgers k g → m ≡ next_version (with_state g.metadata InRecovery)
    → refusal_of s (Fence w l) ≡ None → IsDelta s (after s (Fence w l)) (Metadata k m ∷ due_gone k g)
fence_delta s w l k g m was is read made none =
    undue_delta s l k g m fenced_ledger was is read (ap (λ (m : meta.Metadata). m.version) made) (ap (λ (m : meta.Metadata). record (with_due None g) { metadata = m }) made) (IsWellFormed-after s (Fence w l) was none)

-- what such a swap shows of the ledger
pub swappable_there : (s : Cluster) (w l f i v k : ℕ) (g : Ledger) → IsWellFormed s → position (λ g. g.id == l) s.parts.ledgers ≡ Some k → g ≡ get_or s.parts.ledgers k g → refusal_of s (Swap w l f i v) ≡ None → IsSwappable s g w f i
swappable_there s w l f i v k g was is read none = swappable-found s w l f i v g was (ledger_at-position s l k g was.ledgers.different is read) none

-- what such an ensemble change shows of it
pub rollable_there : (s : Cluster) (l i b k : ℕ) (g : Ledger) → IsWellFormed s → position (λ g. g.id == l) s.parts.ledgers ≡ Some k → g ≡ get_or s.parts.ledgers k g → refusal_of s (Roll l i b) ≡ None → IsRollable s g i b
rollable_there s l i b k g was is read none =
    let found : ledger_at s l ≡ Some g = ledger_at-position s l k g was.ledgers.different is read in
    accepted_roll s l i b g found (next_entry-within s l g was found) (IsLedger-found s l g was found).metadata.version none

-- what such a fence shows of it
pub fenceable_there : (s : Cluster) (w l k : ℕ) (g : Ledger) → IsWellFormed s → position (λ g. g.id == l) s.parts.ledgers ≡ Some k → g ≡ get_or s.parts.ledgers k g → refusal_of s (Fence w l) ≡ None → IsFenceable s g w
fenceable_there s w l k g was is read none =
    let found : ledger_at s l ≡ Some g = ledger_at-position s l k g was.ledgers.different is read in
    accepted_fence s w l g found (IsLedger-found s l g was found).metadata.version none

-- what such a seal shows of it
pub sealable_there : (s : Cluster) (w l k : ℕ) (g : Ledger) → IsWellFormed s → position (λ g. g.id == l) s.parts.ledgers ≡ Some k → g ≡ get_or s.parts.ledgers k g → refusal_of s (Seal w l) ≡ None → IsSealable s g w
sealable_there s w l k g was is read none =
    let found : ledger_at s l ≡ Some g = ledger_at-position s l k g was.ledgers.different is read in
    accepted_seal s w l g found (IsLedger-found s l g was found).metadata.version none

-- Each ledger that an event changes

-- from place k on, the change of each ledger that passes the test
abbrev pub changes_where : (Ledger → Bool) → (ℕ → Ledger → Change) → ℕ → List Ledger → List Change
changes_where test change k [] = []
changes_where test change k (g ∷ gs) = if test g then change k g ∷ changes_where test change (k + 1) gs else changes_where test change (k + 1) gs

-- such changes stand at rising places and make the ledgers after them
record AreChanges (test : Ledger → Bool) (change : ℕ → Ledger → Change) (made : Ledger → Ledger) : Type 0 where
  before : (j k : ℕ) (g h : Ledger) → j < k → IsBefore (place_of (change j g)) (place_of (change k h))
  there : (s : Cluster) (k : ℕ) (g : Ledger) → k < length s.parts.ledgers → IsThere s (change k g)
  makes : (s : Cluster) (front gs : List Ledger) (g : Ledger) → test g ≡ true → exchanged (with_ledgers s (front ++ g ∷ gs)) (change (length front) g ∷ []) ≡ with_ledgers s (front ++ made g ∷ gs)
  keeps : (g : Ledger) → test g ≡ false → made g ≡ g
  differs : (s : Cluster) (k : ℕ) (g : Ledger) → test g ≡ true → slice_get s.parts.ledgers k ≡ Some g → Differs s.parts (change k g)

length-more : (front : List Ledger) (g : Ledger) → length (front ++ g ∷ []) ≡ length front + 1
length-more front g = length-append front (g ∷ [])

module _ (test : Ledger → Bool) (change : ℕ → Ledger → Change) (made : Ledger → Ledger) (are : AreChanges test change made) where
  -- the changes of the ledgers after these
  abbrev behind : List Ledger → List Ledger → List Change
  behind front gs = changes_where test change (length front) gs

  -- what holds of the change of each ledger that passes
  where-each : (P : Change → Type 0) (all front gs : List Ledger) → all ≡ front ++ gs → ((j : ℕ) (g : Ledger) → length front ≤ j → test g ≡ true → slice_get all j ≡ Some g → P (change j g)) → All P (behind front gs)
  where-each P all front [] is each = All-nil P
  where-each P all front (g ∷ gs) is each =
      let here : slice_get all (length front) ≡ Some g = ap (λ (hs : List Ledger). slice_get hs (length front)) is ∙ slice_get-front front g gs in
      let more : All P (behind (front ++ g ∷ []) gs) = where-each P all (front ++ g ∷ []) gs (is ∙ sym (append_assoc front (g ∷ []) gs)) (λ j h later. each j h (omega (arith, later, length-more front g))) in
      let rest : All P (changes_where test change (length front + 1) gs) = subst (λ n. All P (changes_where test change n gs)) (length-more front g) more in
      elim (test g) as (λ b. test g ≡ b → All P (if b then change (length front) g ∷ changes_where test change (length front + 1) gs else changes_where test change (length front + 1) gs)) [
        | true ↦ λ passes. All-cons P (change (length front) g) (changes_where test change (length front + 1) gs) (each (length front) g (omega arith) passes here) rest
        | false ↦ λ _. rest
      ] refl

  -- their places rise
  where-rising : (front gs : List Ledger) → AreRising (map place_of (behind front gs))
  where-rising front [] = tt
  where-rising front (g ∷ gs) =
      let place : Place = place_of (change (length front) g) in
      let later : List Change = changes_where test change (length front + 1) gs in
      let same : behind (front ++ g ∷ []) gs ≡ later = ap (λ n. changes_where test change n gs) (length-more front g) in
      let rest : AreRising (map place_of later) = subst (λ (cs : List Change). AreRising (map place_of cs)) same (where-rising (front ++ g ∷ []) gs) in
      let after_it : All (λ c. IsBefore place (place_of c)) later =
      subst (All (λ c. IsBefore place (place_of c))) same (where-each (λ c. IsBefore place (place_of c)) ((front ++ g ∷ []) ++ gs) (front ++ g ∷ []) gs refl (λ j h on _ _. are.before (length front) j g h (omega (arith, on, length-more front g)))) in
      elim (test g) as (λ b. AreRising (map place_of (if b then change (length front) g ∷ later else later))) [
        | true ↦ (All-map (IsBefore place) place_of later after_it, rest)
        | false ↦ rest
      ]

  -- they make each ledger in turn
  exchanged-where : (s : Cluster) (front gs : List Ledger) → exchanged (with_ledgers s (front ++ gs)) (behind front gs) ≡ with_ledgers s (front ++ map made gs)
  exchanged-where s front [] = refl
  exchanged-where s front (g ∷ gs) =
      let later : List Change = changes_where test change (length front + 1) gs in
      let rest : exchanged (with_ledgers s (front ++ made g ∷ gs)) later ≡ with_ledgers s (front ++ made g ∷ map made gs) =
      ap (λ (hs : List Ledger). exchanged (with_ledgers s hs) later) (sym (append_assoc front (made g ∷ []) gs))
      ∙ ap (λ n. exchanged (with_ledgers s ((front ++ made g ∷ []) ++ gs)) (changes_where test change n gs)) (sym (length-more front (made g)))
      ∙ exchanged-where s (front ++ made g ∷ []) gs
      ∙ ap (with_ledgers s) (append_assoc front (made g ∷ []) (map made gs)) in
      elim (test g) as (λ b. test g ≡ b → exchanged (with_ledgers s (front ++ g ∷ gs)) (if b then change (length front) g ∷ later else later) ≡ with_ledgers s (front ++ made g ∷ map made gs)) [
        | true ↦ λ passes. ap (λ (t : Cluster). exchanged t later) (are.makes s front gs g passes) ∙ rest
        | false ↦ λ fails. ap (λ (h : Ledger). exchanged (with_ledgers s (front ++ h ∷ gs)) later) (sym (are.keeps g fails)) ∙ rest
      ] refl

  -- so they are the difference
  delta_where : (s : Cluster) → IsWellFormed (with_ledgers s (map made s.parts.ledgers)) → IsDelta s (with_ledgers s (map made s.parts.ledgers)) (changes_where test change 0 s.parts.ledgers)
  delta_where s well =
      delta_of_changes s (with_ledgers s (map made s.parts.ledgers)) (changes_where test change 0 s.parts.ledgers) well (where-rising [] s.parts.ledgers)
      (where-each (IsThere s) s.parts.ledgers [] s.parts.ledgers refl (λ j g _ _ here. are.there s j g (slice_get_within s.parts.ledgers j g here)))
      (exchanged-where s [] s.parts.ledgers)
      (where-each (Differs s.parts) s.parts.ledgers [] s.parts.ledgers refl (λ j g _ passes here. are.differs s j g passes here))

-- the locks that go with a worker's session
abbrev pub lost_locks : ℕ → ℕ → List Ledger → List Change
lost_locks w = changes_where (is_locked_by w) (λ k g. Lock k None)

lock_changes : (w : ℕ) → AreChanges (is_locked_by w) (λ k g. Lock k None) (expired_ledger w)
lock_changes w = record {
  before = λ j k g h less. inr (refl, inl less);
  there = λ s k g within. within;
  makes = λ s front gs g passes. ap (with_ledgers s)
      (change_at-front unlocked_ledger front g gs ∙ ap (λ (h : Ledger). front ++ h ∷ gs) (sym (ap (λ b. if b then unlocked_ledger g else g) passes)));
  keeps = λ g fails. ap (λ b. if b then unlocked_ledger g else g) fails;
  differs = λ s k g passes here. part_differs (λ g. g.lock) unlocked_ledger s.parts.ledgers k g here (locked_some w g passes);
}

pub expire_delta : (s : Cluster) (w : ℕ) → IsWellFormed s → refusal_of s (Expire w) ≡ None → IsDelta s (after s (Expire w)) (lost_locks w 0 s.parts.ledgers)
expire_delta s w was none = delta_where (is_locked_by w) (λ k g. Lock k None) (expired_ledger w) (lock_changes w) s (IsWellFormed-after s (Expire w) was none)

-- the tasks that an audit publishes
abbrev pub news_tasks : Cluster → ℕ → List Ledger → List Change
news_tasks s = changes_where (is_news s) (λ k g. Task k (Some (published_members s g)))

task_changes : (s : Cluster) → AreChanges (is_news s) (λ k g. Task k (Some (published_members s g))) (audited_ledger s)
task_changes s = record {
  before = λ j k g h less. inr (refl, inl less);
  there = λ t k g within. within;
  makes = λ t front gs g news. ap (with_ledgers t)
      (change_at-front (λ h. record h { task = Some (published_members s g) }) front g gs ∙ ap (λ (h : Ledger). front ++ h ∷ gs) (sym (audited_news s g news)));
  keeps = audited_same s;
  differs = λ t k g news here. part_differs (λ g. g.task) (λ h. record h { task = Some (published_members s g) }) t.parts.ledgers k g here (news_differs s g news);
}

pub audit_delta : (s : Cluster) → IsWellFormed s → refusal_of s Audit ≡ None → IsDelta s (after s Audit) (news_tasks s 0 s.parts.ledgers)
audit_delta s was none = delta_where (is_news s) (λ k g. Task k (Some (published_members s g))) (audited_ledger s) (task_changes s) s (IsWellFormed-after s Audit was none)
