-- One event: when it is refused, and what it changes.
use Rattle.std.specs.Prelude.{ℕ, ◌+◌, ◌-◌, true, false, if◌then◌else◌, List, [], ◌∷◌, ◌++◌, map, length}
use Rattle.std.specs.Prelude.{Option, None, Some}
use Rattle.std.specs.Option.{option_map}
use Rattle.reh_types.specs.declared.locks.Lock.{Lock}
use Rattle.reh_types.specs.declared.moves.Event.{Event}
use Rattle.reh_types.specs.declared.moves.Event.TheVariants.{Lose, Join, Audit, Acquire, Release, Finish, Expire}
use Rattle.reh_types.specs.declared.moves.Event.TheVariants.{Grace, Tick, Roll, Fence, Seal, Copy, Swap}
use Rattle.reh_types.specs.declared.moves.Event.TheVariants.{Disable, Enable}
use Rattle.reh_types.specs.declared.names.LedgerState.TheVariants.{InRecovery, Closed}
use Rattle.reh_types.specs.declared.refusals.Refusal.{Refusal}
use Rattle.reh_types.specs.Sets as set
use Rattle.reh_model.specs.Contents.{copies_of}
use Rattle.reh_model.specs.Metadata.{Metadata, last_fragment, with_member_at, with_fragment_at, with_state}
use Rattle.reh_model.specs.Metadata.{next_version}
use Rattle.reh_model.specs.Cluster.{Cluster, Ledger, change_ledger, is_locked_by, stripe_at, with_clock, with_held}
use Rattle.reh_model.specs.Cluster.{with_enabled, with_ledgers, with_registration}
use Rattle.reh_model.specs.Audit.{audited_ledger}
use Rattle.reh_model.specs.Recovery.{next_entry, is_rolling_over, recovered_end, recovered_at}
use Rattle.reh_model.specs.Checks.{first_reason}
use Rattle.reh_model.specs.Refusals.{at_ledger, no_bookie, already_down, already_up, disabled, already_disabled}
use Rattle.reh_model.specs.Refusals.{already_enabled, nothing_to_publish, no_task}
use Rattle.reh_model.specs.Refusals.{lock_held, not_owner, still_under, no_locks, bad_tick, clock_end, not_open}
use Rattle.reh_model.specs.Refusals.{not_recovering, not_needed, grace_set, no_grace, grace_runs, too_few, undecided}
use Rattle.reh_model.specs.Refusals.{no_index, member_up, target_down, target_is_member, fragments_full, entry_end}
use Rattle.reh_model.specs.Refusals.{stale_version, no_place, no_source, missing_entry, version_end}

-- what a copy and a swap ask first: the worker holds the ledger's lock, the version is the stored one, and the
-- worker's bookie can take the place
abbrev pub place_checks : Cluster → ℕ → ℕ → ℕ → ℕ → Ledger → List (Option Refusal)
place_checks s w f i v g = not_owner w g ∷ stale_version g v ∷ no_place s w g f i ∷ []

-- a copy finds a source for each entry
abbrev pub copy_checks : Cluster → ℕ → ℕ → ℕ → ℕ → Ledger → List (Option Refusal)
copy_checks s w f i v g = place_checks s w f i v g ++ no_source s g f i ∷ []

-- a swap finds each entry on the worker's bookie, and there is a next version
abbrev pub swap_checks : Cluster → ℕ → ℕ → ℕ → ℕ → Ledger → List (Option Refusal)
swap_checks s w f i v g = place_checks s w f i v g ++ missing_entry s w g f i ∷ version_end g ∷ []

-- a grace is granted at a worker's lock of an open ledger that needs its writer, once
abbrev pub grace_checks : Cluster → ℕ → Ledger → List (Option Refusal)
grace_checks s w g = not_owner w g ∷ not_open g ∷ not_needed s g ∷ grace_set g ∷ []

-- the writer of an open ledger puts a registered bookie in the place of a member that is not, where there is a next
-- entry, room for a fragment and a next version
abbrev pub roll_checks : Cluster → ℕ → ℕ → Ledger → List (Option Refusal)
roll_checks s i b g =
    let last = last_fragment g.metadata in
    not_open g ∷ no_index g i ∷ member_up s last i ∷ target_down s b ∷ target_is_member last b ∷ entry_end s g
    ∷ fragments_full s g ∷ version_end g ∷ []

-- a fence asks what a grace asks, but that the grace was granted and is over, and that there is a next version
abbrev pub fence_checks : Cluster → ℕ → Ledger → List (Option Refusal)
fence_checks s w g = not_owner w g ∷ not_open g ∷ not_needed s g ∷ no_grace g ∷ grace_runs s g ∷ version_end g ∷ []

-- a recovery reaches enough members of each entry, and there is a next version
abbrev pub seal_checks : Cluster → ℕ → Ledger → List (Option Refusal)
seal_checks s w g = not_owner w g ∷ not_recovering g ∷ too_few s g ∷ undecided s g ∷ version_end g ∷ []

-- the first refusal of an event, if there is one
abbrev pub refusal_of : Cluster → Event → Option Refusal
refusal_of s (Lose b) = first_reason (no_bookie s b ∷ already_down s b ∷ [])
refusal_of s (Join b) = first_reason (no_bookie s b ∷ already_up s b ∷ [])
refusal_of s Audit = first_reason (disabled s ∷ nothing_to_publish s ∷ [])
refusal_of s (Acquire w l) =
    first_reason (disabled s ∷ no_bookie s w ∷ at_ledger s l (λ g. no_task g ∷ lock_held g ∷ []) ∷ [])
refusal_of s (Release w l) = first_reason (no_bookie s w ∷ at_ledger s l (λ g. not_owner w g ∷ []) ∷ [])
refusal_of s (Finish w l) =
    first_reason (no_bookie s w ∷ at_ledger s l (λ g. not_owner w g ∷ still_under s g ∷ []) ∷ [])
refusal_of s (Expire w) = first_reason (no_bookie s w ∷ no_locks s w ∷ [])
refusal_of s (Grace w l) = first_reason (no_bookie s w ∷ at_ledger s l (grace_checks s w) ∷ [])
refusal_of s (Tick n) = first_reason (bad_tick n ∷ clock_end s n ∷ [])
refusal_of s (Roll l i b) = first_reason (no_bookie s b ∷ at_ledger s l (roll_checks s i b) ∷ [])
refusal_of s (Fence w l) = first_reason (no_bookie s w ∷ at_ledger s l (fence_checks s w) ∷ [])
refusal_of s (Seal w l) = first_reason (no_bookie s w ∷ at_ledger s l (seal_checks s w) ∷ [])
refusal_of s (Copy w l f i v) = first_reason (no_bookie s w ∷ at_ledger s l (copy_checks s w f i v) ∷ [])
refusal_of s (Swap w l f i v) = first_reason (no_bookie s w ∷ at_ledger s l (swap_checks s w f i v) ∷ [])
refusal_of s Disable = already_disabled s
refusal_of s Enable = already_enabled s

-- a ledger whose task this worker locks, with no due tick
abbrev pub locked_ledger : ℕ → Ledger → Ledger
locked_ledger w g = record g { lock = Some (record { owner = w; due = None }) }

-- a ledger without its lock and the lock's due tick
abbrev pub unlocked_ledger : Ledger → Ledger
unlocked_ledger g = record g { lock = None }

-- a ledger without its task and the task's lock
abbrev pub finished_ledger : Ledger → Ledger
finished_ledger g = record g { task = None; lock = None }

-- a ledger without its lock, if it is this worker's
abbrev pub expired_ledger : ℕ → Ledger → Ledger
expired_ledger w g = if is_locked_by w g then unlocked_ledger g else g

-- a lock with that due tick, or none
abbrev pub timed_lock : Option ℕ → Lock → Lock
timed_lock due lock = record lock { due = due }

-- a ledger whose lock, if it has one, has that due tick, or none
abbrev pub with_due : Option ℕ → Ledger → Ledger
with_due due g = record g { lock = option_map (timed_lock due) g.lock }

-- a ledger that may be fenced from that tick on
abbrev pub graced_ledger : ℕ → Ledger → Ledger
graced_ledger due g = with_due (Some due) g

-- the metadata with that bookie at an index of the last ensemble: in a new fragment from the next entry on, or in the
-- last fragment itself while none of its entries is held
abbrev pub rolled_metadata : Cluster → ℕ → ℕ → Ledger → Metadata
rolled_metadata s i b g =
    let m = g.metadata in
    if is_rolling_over s g then with_fragment_at m (next_entry s g) i b
    else with_member_at m (length m.fragments - 1) i b

-- a ledger at the next version, with that bookie in the last ensemble, and without a due tick
abbrev pub rolled_ledger : Cluster → ℕ → ℕ → Ledger → Ledger
rolled_ledger s i b g = record (with_due None g) { metadata = next_version (rolled_metadata s i b g) }

-- a ledger at the next version, in recovery, and without a due tick
abbrev pub fenced_ledger : Ledger → Ledger
fenced_ledger g = record (with_due None g) { metadata = next_version (with_state g.metadata InRecovery) }

-- a ledger at the next version, closed where its recovery ends it
abbrev pub sealed_ledger : Cluster → Ledger → Ledger
sealed_ledger s g = record g { metadata = next_version (with_state g.metadata (Closed (recovered_end s g))) }

-- a ledger at the next version, with that bookie at an index of a fragment's ensemble
abbrev pub swapped_ledger : ℕ → ℕ → ℕ → Ledger → Ledger
swapped_ledger f i w g = record g { metadata = next_version (with_member_at g.metadata f i w) }

-- the cluster that an accepted event leaves
abbrev pub after : Cluster → Event → Cluster
after s (Lose b) = with_registration s b (Some s.parts.scalars.clock)
after s (Join b) = with_registration s b None
after s Audit = with_ledgers s (map (audited_ledger s) s.parts.ledgers)
after s (Acquire w l) = change_ledger s l (locked_ledger w)
after s (Release w l) = change_ledger s l unlocked_ledger
after s (Finish w l) = change_ledger s l finished_ledger
after s (Expire w) = with_ledgers s (map (expired_ledger w) s.parts.ledgers)
after s (Grace w l) = change_ledger s l (graced_ledger (s.parts.scalars.clock + s.grace))
after s (Tick n) = with_clock s (s.parts.scalars.clock + n)
after s (Roll l i b) = change_ledger s l (rolled_ledger s i b)
after s (Fence w l) = change_ledger s l fenced_ledger
after s (Seal w l) = with_held (change_ledger s l (sealed_ledger s)) (set.union s.parts.held (recovered_at s l))
after s (Copy w l f i v) = with_held s (set.union s.parts.held (copies_of w l (stripe_at s l f i)))
after s (Swap w l f i v) = change_ledger s l (swapped_ledger f i w)
after s Disable = with_enabled s false
after s Enable = with_enabled s true
