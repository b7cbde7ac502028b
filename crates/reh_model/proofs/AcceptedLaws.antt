-- What an accepted event shows, and what the replies of a session tell of its event: this file alone takes the checks of events apart.
use Rattle.std.proofs.Common.{◌≡◌, ℕ, Bool, true, false, not, ◌&&◌, ◌||◌, ◌+◌, ◌-◌, ◌<◌, ◌≤◌, List, [], ◌∷◌, ◌++◌, length, Option, None, Some, IsSome, refl, sym, ap, ◌∙◌, subst, arith, nat_lt, nat_le}
use Rattle.std.specs.Prelude.{◌==◌, is_none, All, slice_get}
use Rattle.std.specs.List.{list_any}
use Rattle.std.specs.Option.{ForSome, option_map, option_and_then}
use Rattle.std.proofs.lemmas.Bool.Decides.{nat_tests}
use Rattle.std.proofs.lemmas.List.Elements.{All-weaker}
use Rattle.std.proofs.lemmas.Option.{slice_get_within}
use Rattle.reh_types.specs.declared.limits.TheConstants.{CLOCK_END, ENTRY_END, MAX_EVENTS, MAX_FRAGMENTS, MAX_VERSION, MAX_TICKS}
use Rattle.reh_types.specs.declared.moves.Event.{Event}
use Rattle.reh_types.specs.declared.moves.Event.TheVariants.{Join, Acquire, Grace, Tick, Roll, Fence, Seal, Copy, Swap, Lose, Disable, Enable}
use Rattle.reh_types.specs.declared.moves.Move.TheVariants.{Do}
use Rattle.reh_types.specs.declared.moves.Reply.TheVariants.{Done, Refused}
use Rattle.reh_types.specs.declared.refusals.Refusal.{Refusal}
use Rattle.reh_types.specs.declared.refusals.Refusal.TheVariants.{GraceSet, GraceRuns, NoGrace, NoSource, MissingEntry, TooFew, Full, Locked}
use Rattle.reh_types.specs.Sets.{Set, numbers}
use Rattle.reh_model.specs.Contents.{IsHeld}
use Rattle.reh_model.specs.Metadata.{Fragment, is_open, is_in_recovery, last_fragment, stop_of, stripe_of}
use Rattle.reh_model.specs.Cluster.{Cluster, Ledger, holds, is_readable, is_locked_by, due_of, ledger_at, stripe_at, is_up}
use Rattle.reh_model.specs.Recovery.{next_entry, is_rolling_over, up_writes, recovered_end, recovered_entries}
use Rattle.reh_model.specs.Checks.{first_reason, reason_if}
use Rattle.reh_model.specs.Refusals.{with_ledger, at_ledger, with_fragment, no_bookie, already_up, disabled, no_task, lock_held, bad_tick, clock_end, not_open, not_recovering, not_needed, grace_set, no_grace, grace_runs, too_few, undecided, fragments_full, entry_end, stale_version, not_owner, no_index, member_up, target_down, target_is_member, no_endpoint, no_place, no_source, missing_entry, version_end, already_down}
use Rattle.reh_model.specs.Step.{refusal_of, grace_checks, roll_checks, fence_checks, seal_checks, place_checks, copy_checks, swap_checks}
use Rattle.reh_types.specs.declared.locks.Lock.{Lock}
use Rattle.reh_model.specs.Session.{Session, state_of, reply_unless, no_room, reply_to}
use Rattle.reh_model.specs.Swaps.{HoldsStripe}
use Rattle.reh_model.proofs.CheckLaws.{reason_if-none, find-none, both-none, check-none, first_reason-only, first_reason-found, first_reason-passed}
use Rattle.reh_model.proofs.RecoveryLaws.{IsHeld-readable}
use Rattle.reh_model.proofs.LedgerLaws.{id_found, stop_at-found, stripe_at-found}

-- The checks of a ledger and of a fragment

-- after the checks of a ledger that give a reason, more do not count,
pub refused_before : (s : Cluster) (w l : ℕ) (checks more : Ledger → List (Option Refusal)) (refusal : Refusal) → first_reason (no_bookie s w ∷ at_ledger s l checks ∷ []) ≡ Some refusal
    → first_reason (no_bookie s w ∷ at_ledger s l (λ g. checks g ++ more g) ∷ []) ≡ Some refusal
refused_before s w l checks more refusal = behind (no_bookie s w) (ledger_at s l) where
  behind : (check : Option Refusal) (o : Option Ledger) → first_reason (check ∷ with_ledger o checks ∷ []) ≡ Some refusal → first_reason (check ∷ with_ledger o (λ g. checks g ++ more g) ∷ []) ≡ Some refusal
  behind (Some r) o is = is
  behind None None is = is
  behind None (Some g) is = first_reason-only (first_reason (checks g ++ more g)) ∙ first_reason-found (checks g) (more g) refusal (sym (first_reason-only (first_reason (checks g))) ∙ is)

-- and they alone count where those give none
pub passed_before : (s : Cluster) (w l : ℕ) (g : Ledger) (checks more : Ledger → List (Option Refusal)) → no_bookie s w ≡ None → ledger_at s l ≡ Some g → first_reason (checks g) ≡ None
    → first_reason (no_bookie s w ∷ at_ledger s l (λ g. checks g ++ more g) ∷ []) ≡ first_reason (more g)
passed_before s w l g checks more named found none =
    (λ i. first_reason (named i ∷ with_ledger (found i) (λ g. checks g ++ more g) ∷ []))
    ∙ first_reason-only (first_reason (checks g ++ more g)) ∙ first_reason-passed (checks g) (more g) none

-- the checks of the ledger that is there
ledger_passes : (s : Cluster) (w l : ℕ) (checks : Ledger → List (Option Refusal)) (g : Ledger) → ledger_at s l ≡ Some g → first_reason (no_bookie s w ∷ at_ledger s l checks ∷ []) ≡ None → first_reason (checks g) ≡ None
ledger_passes s w l checks g found none = sym (ap (λ o. with_ledger o checks) found) ∙ check-none (no_bookie s w ∷ []) (at_ledger s l checks) [] none

-- a ledger is there, and its checks give none
pub record FoundLedger (o : Option Ledger) (checks : Ledger → List (Option Refusal)) : Type 0 where
  pub ledger : Ledger
  pub is : o ≡ Some ledger
  pub passes : first_reason (checks ledger) ≡ None

with_ledger-none : (o : Option Ledger) (checks : Ledger → List (Option Refusal)) → with_ledger o checks ≡ None → FoundLedger o checks
with_ledger-none None checks none = cc
with_ledger-none (Some g) checks none = record { ledger = g; is = refl; passes = none }

-- a fragment is there, and its checks give none
pub record FoundFragment (o : Option Fragment) (checks : Fragment → List (Option Refusal)) : Type 0 where
  pub fragment : Fragment
  pub is : o ≡ Some fragment
  pub passes : first_reason (checks fragment) ≡ None

pub with_fragment-none : (o : Option Fragment) (checks : Fragment → List (Option Refusal)) → with_fragment o checks ≡ None → FoundFragment o checks
with_fragment-none None checks none = cc
with_fragment-none (Some fragment) checks none = record { fragment = fragment; is = refl; passes = none }

-- Single checks

-- the bookie is in the picture
no_bookie-none : (s : Cluster) (b : ℕ) → no_bookie s b ≡ None → b < length s.names
no_bookie-none s b none = let named : not (nat_lt b (length s.names)) ≡ false = reason_if-none _ _ none in grind (arith, nat_tests)

-- the ledger has a task
no_task-none : (g : Ledger) → no_task g ≡ None → IsSome g.task
no_task-none g none = some g.task (reason_if-none _ _ none) where
  some : (o : Option (Set numbers)) → is_none o ≡ false → IsSome o
  some None none = cc
  some (Some task) none = refl

-- the ledger has no lock
lock_held-none : (g : Ledger) → lock_held g ≡ None → g.lock ≡ None
lock_held-none g = no_lock g.lock where
  no_lock : (o : Option Lock) → option_map (λ lock. Locked lock.owner) o ≡ None → o ≡ None
  no_lock None none = refl
  no_lock (Some lock) none = cc

-- the clock goes on
bad_tick-none : (n : ℕ) → bad_tick n ≡ None → 0 < n
bad_tick-none n none = some (n == 0) (nat_lt MAX_TICKS n) refl (reason_if-none _ _ none) where
  some : (a b : Bool) → (n == 0) ≡ a → (a || b) ≡ false → 0 < n
  some true b is none = cc
  some false b is none = grind (arith, nat_tests)

-- the clock does not pass its end
clock_end-none : (s : Cluster) (n : ℕ) → clock_end s n ≡ None → s.parts.scalars.clock + n ≤ CLOCK_END
clock_end-none s n none = let within : nat_lt CLOCK_END (s.parts.scalars.clock + n) ≡ false = reason_if-none _ _ none in grind (arith, nat_tests)

-- the ensemble has the index
no_index-none : (g : Ledger) (i : ℕ) → no_index g i ≡ None → i < g.metadata.size
no_index-none g i none = let within : not (nat_lt i g.metadata.size) ≡ false = reason_if-none _ _ none in grind (arith, nat_tests)

-- there is a next version
version_end-none : (g : Ledger) → g.metadata.version ≤ MAX_VERSION → version_end g ≡ None → g.metadata.version < MAX_VERSION
version_end-none g few none = let apart : (g.metadata.version == MAX_VERSION) ≡ false = reason_if-none _ _ none in grind (arith, nat_tests)

-- whether a condition that must not fail holds
pub not_not : (b : Bool) → not b ≡ false → b ≡ true
not_not true is = refl
not_not false is = cc

-- Events

-- a bookie that is lost was registered
pub accepted_lose : (s : Cluster) (b : ℕ) → refusal_of s (Lose b) ≡ None → is_up s b ≡ true
accepted_lose s b none = not_not (is_up s b) (reason_if-none _ _ (check-none (no_bookie s b ∷ []) (already_down s b) [] none))

-- a bookie that joins is in the picture, and was not registered
pub accepted_join : (s : Cluster) (b : ℕ) → refusal_of s (Join b) ≡ None → (b < length s.names) × (is_up s b ≡ false)
accepted_join s b none = (
  no_bookie-none s b (check-none [] (no_bookie s b) (already_up s b ∷ []) none),
  reason_if-none _ _ (check-none (no_bookie s b ∷ []) (already_up s b) [] none),
)

-- the ledger that a worker's event names is there, and its checks give none
pub accepted_ledger : (s : Cluster) (w l : ℕ) (checks : Ledger → List (Option Refusal)) → first_reason (no_bookie s w ∷ at_ledger s l checks ∷ []) ≡ None → FoundLedger (ledger_at s l) checks
accepted_ledger s w l checks none = with_ledger-none (ledger_at s l) checks (check-none (no_bookie s w ∷ []) (at_ledger s l checks) [] none)

-- AutoRecovery was enabled where it is disabled, and the other way round
pub accepted_disable : (s : Cluster) → refusal_of s Disable ≡ None → s.parts.scalars.enabled ≡ true
accepted_disable s none = not_not s.parts.scalars.enabled (reason_if-none _ _ none)

pub accepted_enable : (s : Cluster) → refusal_of s Enable ≡ None → s.parts.scalars.enabled ≡ false
accepted_enable s none = reason_if-none _ _ none

-- after the check whether AutoRecovery is enabled, those of the worker and of the ledger accept a lock
locking_passes : (s : Cluster) (w l : ℕ) → refusal_of s (Acquire w l) ≡ None → first_reason (no_bookie s w ∷ at_ledger s l (λ g. no_task g ∷ lock_held g ∷ []) ∷ []) ≡ None
locking_passes s w l none = (both-none (disabled s) (first_reason (no_bookie s w ∷ at_ledger s l (λ g. no_task g ∷ lock_held g ∷ []) ∷ [])) none).1

-- a ledger whose task a worker locks has no lock
pub accepted_free : (s : Cluster) (w l : ℕ) → refusal_of s (Acquire w l) ≡ None → (g : Ledger) × (ledger_at s l ≡ Some g) × (g.lock ≡ None)
accepted_free s w l none =
    let found = accepted_ledger s w l (λ g. no_task g ∷ lock_held g ∷ []) (locking_passes s w l none) in
    (found.ledger, found.is, lock_held-none found.ledger (check-none (no_task found.ledger ∷ []) (lock_held found.ledger) [] found.passes))

-- one whose owner is asked for is locked by the worker
pub accepted_owner : (s : Cluster) (w l : ℕ) (more : Ledger → List (Option Refusal)) → first_reason (no_bookie s w ∷ at_ledger s l (λ g. not_owner w g ∷ more g) ∷ []) ≡ None → (g : Ledger) × (ledger_at s l ≡ Some g) × (is_locked_by w g ≡ true)
accepted_owner s w l more none =
    let found = accepted_ledger s w l (λ g. not_owner w g ∷ more g) none in
    let g : Ledger = found.ledger in
    (g, found.is, not_not (is_locked_by w g) (reason_if-none _ _ (check-none [] (not_owner w g) (more g) found.passes)))

-- a worker that locks a ledger is in the picture, and the ledger has a task
pub accepted_acquire : (s : Cluster) (w l : ℕ) (g : Ledger) → ledger_at s l ≡ Some g → refusal_of s (Acquire w l) ≡ None → (w < length s.names) × IsSome g.task
accepted_acquire s w l g found none =
    let checks : Ledger → List (Option Refusal) = λ g. no_task g ∷ lock_held g ∷ [] in
    let passes : first_reason (no_bookie s w ∷ at_ledger s l checks ∷ []) ≡ None = locking_passes s w l none in
    let free : first_reason (checks g) ≡ None = ledger_passes s w l checks g found passes in (
      no_bookie-none s w (check-none [] (no_bookie s w) (at_ledger s l checks ∷ []) passes),
      no_task-none g (check-none [] (no_task g) (lock_held g ∷ []) free),
    )

-- ticks move the clock, and not past its end
pub accepted_tick : (s : Cluster) (n : ℕ) → refusal_of s (Tick n) ≡ None → (0 < n) × (s.parts.scalars.clock + n ≤ CLOCK_END)
accepted_tick s n none = (
  bad_tick-none n (check-none [] (bad_tick n) (clock_end s n ∷ []) none),
  clock_end-none s n (check-none (bad_tick n ∷ []) (clock_end s n) [] none),
)

-- Open ledgers

-- the ledger is open
not_open-none : (g : Ledger) → not_open g ≡ None → is_open g.metadata.state ≡ true
not_open-none g none = not_not (is_open g.metadata.state) (reason_if-none _ _ none)

-- the worker holds its lock
not_owner-none : (w : ℕ) (g : Ledger) → not_owner w g ≡ None → is_locked_by w g ≡ true
not_owner-none w g none = not_not (is_locked_by w g) (reason_if-none _ _ none)

-- what an accepted grace shows: the worker's lock of an open ledger has no due tick yet
pub record IsGraceable (g : Ledger) (w : ℕ) : Type 0 where
  pub owned : is_locked_by w g ≡ true
  pub state : is_open g.metadata.state ≡ true
  pub unset : due_of g ≡ None

pub accepted_grace : (s : Cluster) (w l : ℕ) (g : Ledger) → ledger_at s l ≡ Some g → refusal_of s (Grace w l) ≡ None → IsGraceable g w
accepted_grace s w l g found none =
    let passes : first_reason (grace_checks s w g) ≡ None = ledger_passes s w l (grace_checks s w) g found none in
    record {
      owned = not_owner-none w g (check-none [] (not_owner w g) (not_open g ∷ not_needed s g ∷ grace_set g ∷ []) passes);
      state = not_open-none g (check-none (not_owner w g ∷ []) (not_open g) (not_needed s g ∷ grace_set g ∷ []) passes);
      unset = no_due (due_of g) (check-none (not_owner w g ∷ not_open g ∷ not_needed s g ∷ []) (grace_set g) [] passes);
    }
  where
    no_due : (due : Option ℕ) → option_map (λ due. GraceSet due) due ≡ None → due ≡ None
    no_due None none = refl
    no_due (Some due) none = cc

-- what an accepted ensemble change of the writer's shows: the bookie is in the picture and no member of the last ensemble, the ledger is open, the index is there, the next entry is one that there can be, and there is room for a fragment, where one is needed, and a next version
pub record IsRollable (s : Cluster) (g : Ledger) (i b : ℕ) : Type 0 where
  pub named : b < length s.names
  pub state : is_open g.metadata.state ≡ true
  pub index : i < g.metadata.size
  pub new : list_any (λ member. member == b) (last_fragment g.metadata).ensemble ≡ false
  pub next : next_entry s g < ENTRY_END
  pub room : is_rolling_over s g ≡ true → length g.metadata.fragments < MAX_FRAGMENTS
  pub version : g.metadata.version < MAX_VERSION

-- there is an entry after those that are held
entry_end-none : (s : Cluster) (g : Ledger) → next_entry s g ≤ ENTRY_END → entry_end s g ≡ None → next_entry s g < ENTRY_END
entry_end-none s g within none = let apart : (next_entry s g == ENTRY_END) ≡ false = reason_if-none _ _ none in grind (arith, nat_tests)

-- there is room for a fragment that is needed
fragments_full-none : (s : Cluster) (g : Ledger) → fragments_full s g ≡ None → is_rolling_over s g ≡ true → length g.metadata.fragments < MAX_FRAGMENTS
fragments_full-none s g none over =
    let few : nat_le MAX_FRAGMENTS (length g.metadata.fragments) ≡ false = sym (ap (λ b. b && nat_le MAX_FRAGMENTS (length g.metadata.fragments)) over) ∙ reason_if-none _ _ none in
    grind (arith, nat_tests, few)

-- the ledger is open
pub accepted_roll_open : (s : Cluster) (l i b : ℕ) (g : Ledger) → ledger_at s l ≡ Some g → refusal_of s (Roll l i b) ≡ None → is_open g.metadata.state ≡ true
accepted_roll_open s l i b g found none =
    let last : Fragment = last_fragment g.metadata in
    not_open-none g (check-none [] (not_open g) (no_index g i ∷ member_up s last i ∷ target_down s b ∷ target_is_member last b ∷ entry_end s g ∷ fragments_full s g ∷ version_end g ∷ []) (ledger_passes s b l (roll_checks s i b) g found none))

pub accepted_roll : (s : Cluster) (l i b : ℕ) (g : Ledger) → ledger_at s l ≡ Some g → next_entry s g ≤ ENTRY_END → g.metadata.version ≤ MAX_VERSION → refusal_of s (Roll l i b) ≡ None → IsRollable s g i b
accepted_roll s l i b g found within few none =
    let last : Fragment = last_fragment g.metadata in
    let passes : first_reason (roll_checks s i b g) ≡ None = ledger_passes s b l (roll_checks s i b) g found none in
    let place : List (Option Refusal) = not_open g ∷ no_index g i ∷ member_up s last i ∷ target_down s b ∷ [] in
    let room : List (Option Refusal) = entry_end s g ∷ fragments_full s g ∷ version_end g ∷ [] in
    record {
      named = no_bookie-none s b (check-none [] (no_bookie s b) (at_ledger s l (roll_checks s i b) ∷ []) none);
      state = accepted_roll_open s l i b g found none;
      index = no_index-none g i (check-none (not_open g ∷ []) (no_index g i) (member_up s last i ∷ target_down s b ∷ target_is_member last b ∷ room) passes);
      new = reason_if-none _ _ (check-none place (target_is_member last b) room passes);
      next = entry_end-none s g within (check-none (place ++ target_is_member last b ∷ []) (entry_end s g) (fragments_full s g ∷ version_end g ∷ []) passes);
      room = fragments_full-none s g (check-none (place ++ target_is_member last b ∷ entry_end s g ∷ []) (fragments_full s g) (version_end g ∷ []) passes);
      version = version_end-none g few (check-none (place ++ target_is_member last b ∷ entry_end s g ∷ fragments_full s g ∷ []) (version_end g) [] passes);
    }

-- what an accepted fence shows: the worker's lock of an open ledger has a due tick that has come, and there is a next version
pub record IsFenceable (s : Cluster) (g : Ledger) (w : ℕ) : Type 0 where
  pub owned : is_locked_by w g ≡ true
  pub state : is_open g.metadata.state ≡ true
  pub due : ℕ
  pub set : due_of g ≡ Some due
  pub over : due ≤ s.parts.scalars.clock
  pub version : g.metadata.version < MAX_VERSION

-- the ledger is open
pub accepted_fence_open : (s : Cluster) (w l : ℕ) (g : Ledger) → ledger_at s l ≡ Some g → refusal_of s (Fence w l) ≡ None → is_open g.metadata.state ≡ true
accepted_fence_open s w l g found none = not_open-none g (check-none (not_owner w g ∷ []) (not_open g) (not_needed s g ∷ no_grace g ∷ grace_runs s g ∷ version_end g ∷ []) (ledger_passes s w l (fence_checks s w) g found none))

pub accepted_fence : (s : Cluster) (w l : ℕ) (g : Ledger) → ledger_at s l ≡ Some g → g.metadata.version ≤ MAX_VERSION → refusal_of s (Fence w l) ≡ None → IsFenceable s g w
accepted_fence s w l g found few none =
    let passes : first_reason (fence_checks s w g) ≡ None = ledger_passes s w l (fence_checks s w) g found none in
    let before : List (Option Refusal) = not_owner w g ∷ not_open g ∷ not_needed s g ∷ [] in
    let has_come = come (due_of g) (check-none before (no_grace g) (grace_runs s g ∷ version_end g ∷ []) passes) (check-none (before ++ no_grace g ∷ []) (grace_runs s g) (version_end g ∷ []) passes) in
    record {
      owned = not_owner-none w g (check-none [] (not_owner w g) (not_open g ∷ not_needed s g ∷ no_grace g ∷ grace_runs s g ∷ version_end g ∷ []) passes);
      state = accepted_fence_open s w l g found none;
      due = has_come.0;
      set = has_come.1;
      over = has_come.2;
      version = version_end-none g few (check-none (before ++ no_grace g ∷ grace_runs s g ∷ []) (version_end g) [] passes);
    }
  where
    come : (o : Option ℕ) → reason_if (is_none o) NoGrace ≡ None → option_and_then (λ due. reason_if (nat_lt s.parts.scalars.clock due) (GraceRuns due)) o ≡ None → (due : ℕ) × (o ≡ Some due) × (due ≤ s.parts.scalars.clock)
    come None none runs = cc
    come (Some due) none runs = let passed : nat_lt s.parts.scalars.clock due ≡ false = reason_if-none _ _ runs in (due, refl, grind (arith, nat_tests, passed))

-- what an accepted seal shows: the worker locks a ledger in recovery, each entry that it passes has an ack quorum of registered members, at its end so many of them lack the entry that the others are none, and there is a next version
pub record IsSealable (s : Cluster) (g : Ledger) (w : ℕ) : Type 0 where
  pub owned : is_locked_by w g ≡ true
  pub state : is_in_recovery g.metadata.state ≡ true
  pub enough : All (λ e. g.metadata.ack_quorum ≤ length (up_writes s g e)) (recovered_entries s g)
  pub decided : g.metadata.write_quorum - g.metadata.ack_quorum + 1 ≤ length (up_writes s g (recovered_end s g))
  pub version : g.metadata.version < MAX_VERSION

-- the ledger is in recovery
pub accepted_seal_recovering : (s : Cluster) (w l : ℕ) (g : Ledger) → ledger_at s l ≡ Some g → refusal_of s (Seal w l) ≡ None → is_in_recovery g.metadata.state ≡ true
accepted_seal_recovering s w l g found none =
    not_not (is_in_recovery g.metadata.state) (reason_if-none _ _ (check-none (not_owner w g ∷ []) (not_recovering g) (too_few s g ∷ undecided s g ∷ version_end g ∷ []) (ledger_passes s w l (seal_checks s w) g found none)))

pub accepted_seal : (s : Cluster) (w l : ℕ) (g : Ledger) → ledger_at s l ≡ Some g → g.metadata.version ≤ MAX_VERSION → refusal_of s (Seal w l) ≡ None → IsSealable s g w
accepted_seal s w l g found few none =
    let passes : first_reason (seal_checks s w g) ≡ None = ledger_passes s w l (seal_checks s w) g found none in
    let state : List (Option Refusal) = not_owner w g ∷ not_recovering g ∷ [] in
    let acks : ℕ = g.metadata.ack_quorum in
    let each : All (λ e. nat_lt (length (up_writes s g e)) acks ≡ false) (recovered_entries s g) =
    find-none (λ e. nat_lt (length (up_writes s g e)) acks) (λ e. TooFew e) (recovered_entries s g) (check-none state (too_few s g) (undecided s g ∷ version_end g ∷ []) passes) in
    let lacking : nat_lt (length (up_writes s g (recovered_end s g))) (g.metadata.write_quorum - acks + 1) ≡ false = reason_if-none _ _ (check-none (state ++ too_few s g ∷ []) (undecided s g) (version_end g ∷ []) passes) in
    record {
      owned = not_owner-none w g (check-none [] (not_owner w g) (not_recovering g ∷ too_few s g ∷ undecided s g ∷ version_end g ∷ []) passes);
      state = accepted_seal_recovering s w l g found none;
      enough = All-weaker (λ e. nat_lt (length (up_writes s g e)) acks ≡ false) (λ e. acks ≤ length (up_writes s g e)) (λ e is. grind (arith, nat_tests, is)) (recovered_entries s g) each;
      decided = grind (arith, nat_tests, lacking);
      version = version_end-none g few (check-none (state ++ too_few s g ∷ undecided s g ∷ []) (version_end g) [] passes);
    }

-- Copies

-- what an accepted copy shows: the bookie is in the picture, and each entry that it takes is held by some bookie
pub record IsCopyable (s : Cluster) (w l f i : ℕ) : Type 0 where
  pub named : w < length s.names
  pub held : All (λ e. IsHeld s.parts.held l e) (stripe_at s l f i)

pub accepted_copy : (s : Cluster) (w l f i v : ℕ) → refusal_of s (Copy w l f i v) ≡ None → IsCopyable s w l f i
accepted_copy s w l f i v none =
    let checks : Ledger → List (Option Refusal) = copy_checks s w f i v in
    let found = accepted_ledger s w l checks none in
    let g = found.ledger in
    let source = with_fragment-none (slice_get g.metadata.fragments f) _ (check-none (place_checks s w f i v g) (no_source s g f i) [] found.passes) in
    let fragment = source.fragment in
    let entries = stripe_of g.metadata f i in
    let readable : All (λ e. not (is_readable s g fragment e) ≡ false) entries = find-none (λ e. not (is_readable s g fragment e)) (λ e. NoSource e) entries (check-none [] _ [] source.passes) in
    let held : All (λ e. IsHeld s.parts.held g.id e) entries =
    All-weaker (λ e. not (is_readable s g fragment e) ≡ false) (λ e. IsHeld s.parts.held g.id e) (λ e is. IsHeld-readable s g fragment e (not_not (is_readable s g fragment e) is)) entries readable in
    record {
      named = no_bookie-none s w (check-none [] (no_bookie s w) (at_ledger s l checks ∷ []) none);
      held = subst (λ (es : List ℕ). All (λ e. IsHeld s.parts.held l e) es) (sym (stripe_at-found s l f i g found.is)) (subst (λ (k : ℕ). All (λ e. IsHeld s.parts.held k e) entries) (id_found l s.parts.ledgers g found.is) held);
    }

-- Swaps

-- what an accepted swap shows: the bookie is in the picture, the fragment and the index are there, the bookie is no member yet, and there is a next version
pub record IsSwappable (s : Cluster) (g : Ledger) (w f i : ℕ) : Type 0 where
  pub named : w < length s.names
  pub fragment : f < length g.metadata.fragments
  pub index : i < g.metadata.size
  pub new : ForSome (slice_get g.metadata.fragments f) (λ fragment. list_any (λ member. member == w) fragment.ensemble ≡ false)
  pub version : g.metadata.version < MAX_VERSION

pub accepted_swap : (s : Cluster) (w l f i v : ℕ) (g : Ledger) → ledger_at s l ≡ Some g → g.metadata.version ≤ MAX_VERSION → refusal_of s (Swap w l f i v) ≡ None → IsSwappable s g w f i
accepted_swap s w l f i v g found few none =
    let checks : Ledger → List (Option Refusal) = swap_checks s w f i v in
    let passes : first_reason (checks g) ≡ None = ledger_passes s w l checks g found none in
    let place = with_fragment-none (slice_get g.metadata.fragments f) _ (check-none (not_owner w g ∷ stale_version g v ∷ []) (no_place s w g f i) (missing_entry s w g f i ∷ version_end g ∷ []) passes) in
    let old = place.fragment in
    let new : list_any (λ member. member == w) old.ensemble ≡ false = reason_if-none _ _ (check-none (no_index g i ∷ member_up s old i ∷ target_down s w ∷ []) (target_is_member old w) (no_endpoint g f ∷ []) place.passes) in
    record {
      named = no_bookie-none s w (check-none [] (no_bookie s w) (at_ledger s l checks ∷ []) none);
      fragment = slice_get_within g.metadata.fragments f old place.is;
      index = no_index-none g i (check-none [] (no_index g i) (member_up s old i ∷ target_down s w ∷ target_is_member old w ∷ no_endpoint g f ∷ []) place.passes);
      new = λ fragment is. let same : old ≡ fragment = cc in subst (λ (x : Fragment). list_any (λ member. member == w) x.ensemble ≡ false) same new;
      version = version_end-none g few (check-none (place_checks s w f i v g ++ missing_entry s w g f i ∷ []) (version_end g) [] passes);
    }

-- there is a stop where nothing refuses for the want of one
no_endpoint-none : (g : Ledger) (f : ℕ) → no_endpoint g f ≡ None → IsSome (stop_of g.metadata f)
no_endpoint-none g f none = some (stop_of g.metadata f) (reason_if-none _ _ none) where
  some : (o : Option ℕ) → is_none o ≡ false → IsSome o
  some None none = cc
  some (Some stop) none = refl

-- No swap that is accepted loses an entry: the fragment has a stop, and the worker's bookie holds each entry that it stripes onto the index.
pub accepted_swap_holds : (s : Cluster) (w l f i v : ℕ) → refusal_of s (Swap w l f i v) ≡ None → HoldsStripe s (Swap w l f i v)
accepted_swap_holds s w l f i v none =
    let checks : Ledger → List (Option Refusal) = swap_checks s w f i v in
    let found = accepted_ledger s w l checks none in
    let g : Ledger = found.ledger in
    let entries : List ℕ = stripe_of g.metadata f i in
    let place = with_fragment-none (slice_get g.metadata.fragments f) _ (check-none (not_owner w g ∷ stale_version g v ∷ []) (no_place s w g f i) (missing_entry s w g f i ∷ version_end g ∷ []) found.passes) in
    let ends : IsSome (stop_of g.metadata f) = no_endpoint-none g f (check-none (no_index g i ∷ member_up s place.fragment i ∷ target_down s w ∷ target_is_member place.fragment w ∷ []) (no_endpoint g f) [] place.passes) in
    let lacks : missing_entry s w g f i ≡ None = check-none (place_checks s w f i v g) (missing_entry s w g f i) (version_end g ∷ []) found.passes in
    let each : All (λ e. holds s w g.id e ≡ true) entries =
    All-weaker (λ e. not (holds s w g.id e) ≡ false) (λ e. holds s w g.id e ≡ true) (λ e is. not_not (holds s w g.id e) is) entries (find-none (λ e. not (holds s w g.id e)) (λ e. MissingEntry e) entries lacks) in (
      subst (λ (o : Option ℕ). IsSome o) (sym (stop_at-found s l f g found.is)) ends,
      subst (λ (es : List ℕ). All (λ e. holds s w l e ≡ true) es) (sym (stripe_at-found s l f i g found.is))
          (subst (λ (k : ℕ). All (λ e. holds s w k e ≡ true) entries) (id_found l s.parts.ledgers g found.is) each),
    )

-- A session's moves

-- an event that is done was not refused
pub done_accepted : (m : Session) (event : Event) → reply_to m (Do event) ≡ Done → refusal_of (state_of m) event ≡ None
done_accepted m event done = none (refusal_of (state_of m) event) done where
  none : (o : Option Refusal) → reply_unless (first_reason (o ∷ no_room m ∷ [])) ≡ Done → o ≡ None
  none None is = refl
  none (Some refusal) is = cc

-- an event that is refused is answered so
pub refused_first : (m : Session) (event : Event) (refusal : Refusal) → refusal_of (state_of m) event ≡ Some refusal → reply_to m (Do event) ≡ Refused refusal
refused_first m event refusal is = ap (λ (o : Option Refusal). reply_unless (first_reason (o ∷ no_room m ∷ []))) is

-- an event that is not refused is done, where there is room
pub done_within : (m : Session) (event : Event) → refusal_of (state_of m) event ≡ None → length m.done < MAX_EVENTS → reply_to m (Do event) ≡ Done
done_within m event accepted room =
    let few : nat_le MAX_EVENTS (length m.done) ≡ false = grind (arith, nat_tests) in
    ap (λ (o : Option Refusal). reply_unless (first_reason (o ∷ no_room m ∷ []))) accepted
    ∙ ap (λ (b : Bool). reply_unless (first_reason (reason_if b Full ∷ []))) few

-- and refused where there is none
pub full_refused : (m : Session) (event : Event) → refusal_of (state_of m) event ≡ None → nat_le MAX_EVENTS (length m.done) ≡ true → reply_to m (Do event) ≡ Refused Full
full_refused m event accepted full =
    ap (λ (o : Option Refusal). reply_unless (first_reason (o ∷ no_room m ∷ []))) accepted ∙ ap (λ (b : Bool). reply_unless (first_reason (reason_if b Full ∷ []))) full
