-- When each refusal applies, as a check that gives the refusal or none.
use Rattle.std.specs.Prelude.{◌≡◌, ℕ, ◌+◌, ◌-◌, not, ◌&&◌, ◌||◌, ◌==◌, nat_lt, nat_le, List, [], ◌∷◌, length, Option}
use Rattle.std.specs.Prelude.{None, Some, is_none, unwrap_or, slice_get, slice_index, Result, MatchResult}
use Rattle.std.specs.List.{find, list_any}
use Rattle.std.specs.Option.{option_map, option_and_then}
use Rattle.reh_types.specs.declared.limits.TheConstants.{CLOCK_END, ENTRY_END, MAX_FRAGMENTS, MAX_TICKS, MAX_VERSION}
use Rattle.reh_types.specs.declared.refusals.Refusal.{Refusal}
use Rattle.reh_types.specs.declared.refusals.Refusal.TheVariants.{NoBookie, NoLedger, AlreadyDown, AlreadyUp}
use Rattle.reh_types.specs.declared.refusals.Refusal.TheVariants.{NothingToPublish, NoTask, Locked, NotOwner}
use Rattle.reh_types.specs.declared.refusals.Refusal.TheVariants.{StillUnder, NoLocks, NotOpen, NotNeeded, GraceSet}
use Rattle.reh_types.specs.declared.refusals.Refusal.TheVariants.{GraceRuns, NoGrace, BadTick, ClockEnd, NoFragment}
use Rattle.reh_types.specs.declared.refusals.Refusal.TheVariants.{NoIndex, MemberUp, TargetDown, TargetIsMember}
use Rattle.reh_types.specs.declared.refusals.Refusal.TheVariants.{NoEndpoint, Stale, NoSource, MissingEntry}
use Rattle.reh_types.specs.declared.refusals.Refusal.TheVariants.{Undecided, TooFew, NotRecovering, FragmentsFull}
use Rattle.reh_types.specs.declared.refusals.Refusal.TheVariants.{EntryEnd, VersionEnd, NoMemory}
use Rattle.reh_types.specs.declared.refusals.Refusal.TheVariants.{Disabled, AlreadyDisabled, AlreadyEnabled}
use Rattle.reh_model.specs.Metadata.{Fragment, is_open, is_in_recovery, stop_of, stripe_of}
use Rattle.reh_model.specs.Cluster.{Cluster, Ledger, is_up, holds, is_readable, ledger_at, is_locked_by, due_of}
use Rattle.reh_model.specs.Audit.{is_news, first_under, is_needed}
use Rattle.reh_model.specs.Recovery.{next_entry, is_rolling_over, up_writes, recovered_end, recovered_entries}
use Rattle.reh_model.specs.Checks.{reason_if, first_reason}

-- what decides whether something is refused: accepted where there is no refusal, and else refused with it
abbrev pub Decides : Result (Unit {0}) Refusal → Option Refusal → Type 0
Decides result refusal = MatchResult result (λ _. refusal ≡ None) (λ reason. refusal ≡ Some reason)

-- what decides so, and gives what it found where it is accepted
abbrev pub Finds : {F : Type 0} → Result F Refusal → Option Refusal → (F → Type 0) → Type 0
Finds result refusal IsFound =
    MatchResult result (λ found. (refusal ≡ None) × IsFound found) (λ reason. refusal ≡ Some reason)

-- the refusal; where there is none, out of memory, which comes after all others
abbrev pub or_no_memory : Option Refusal → Refusal
or_no_memory refusal = unwrap_or refusal NoMemory

-- the checks of a ledger, or that there is none
abbrev pub with_ledger : Option Ledger → (Ledger → List (Option Refusal)) → Option Refusal
with_ledger None checks = Some NoLedger
with_ledger (Some g) checks = first_reason (checks g)

-- the checks of the ledger of that id
abbrev pub at_ledger : Cluster → ℕ → (Ledger → List (Option Refusal)) → Option Refusal
at_ledger s l checks = with_ledger (ledger_at s l) checks

-- the checks of a fragment, or that there is none
abbrev pub with_fragment : Option Fragment → (Fragment → List (Option Refusal)) → Option Refusal
with_fragment None checks = Some NoFragment
with_fragment (Some fragment) checks = first_reason (checks fragment)

-- the checks of the ledger's fragment of that number
abbrev pub at_fragment : Ledger → ℕ → (Fragment → List (Option Refusal)) → Option Refusal
at_fragment g f checks = with_fragment (slice_get g.metadata.fragments f) checks

-- Bookies and the clock

abbrev pub no_bookie : Cluster → ℕ → Option Refusal
no_bookie s b = reason_if (not (nat_lt b (length s.names))) NoBookie

abbrev pub already_down : Cluster → ℕ → Option Refusal
already_down s b = reason_if (not (is_up s b)) AlreadyDown

abbrev pub already_up : Cluster → ℕ → Option Refusal
already_up s b = reason_if (is_up s b) AlreadyUp

abbrev pub bad_tick : ℕ → Option Refusal
bad_tick n = reason_if (n == 0 || nat_lt MAX_TICKS n) BadTick

abbrev pub clock_end : Cluster → ℕ → Option Refusal
clock_end s n = reason_if (nat_lt CLOCK_END (s.parts.scalars.clock + n)) ClockEnd

-- Whether AutoRecovery is enabled

abbrev pub disabled : Cluster → Option Refusal
disabled s = reason_if (not s.parts.scalars.enabled) Disabled

abbrev pub already_disabled : Cluster → Option Refusal
already_disabled s = reason_if (not s.parts.scalars.enabled) AlreadyDisabled

abbrev pub already_enabled : Cluster → Option Refusal
already_enabled s = reason_if s.parts.scalars.enabled AlreadyEnabled

-- The auditor, tasks and locks

-- no task's set would change
abbrev pub nothing_to_publish : Cluster → Option Refusal
nothing_to_publish s = reason_if (not (list_any (is_news s) s.parts.ledgers)) NothingToPublish

abbrev pub no_task : Ledger → Option Refusal
no_task g = reason_if (is_none g.task) NoTask

-- its task is locked, by whomever
abbrev pub lock_held : Ledger → Option Refusal
lock_held g = option_map (λ lock. Locked lock.owner) g.lock

abbrev pub not_owner : ℕ → Ledger → Option Refusal
not_owner w g = reason_if (not (is_locked_by w g)) NotOwner

-- the least fragment with a member that is not registered
abbrev pub still_under : Cluster → Ledger → Option Refusal
still_under s g = option_map (λ f. StillUnder f) (first_under s g)

abbrev pub no_locks : Cluster → ℕ → Option Refusal
no_locks s w = reason_if (not (list_any (is_locked_by w) s.parts.ledgers)) NoLocks

-- Open ledgers: grace, fence and recovery

abbrev pub not_open : Ledger → Option Refusal
not_open g = reason_if (not (is_open g.metadata.state)) NotOpen

abbrev pub not_recovering : Ledger → Option Refusal
not_recovering g = reason_if (not (is_in_recovery g.metadata.state)) NotRecovering

abbrev pub not_needed : Cluster → Ledger → Option Refusal
not_needed s g = reason_if (not (is_needed s g)) NotNeeded

abbrev pub grace_set : Ledger → Option Refusal
grace_set g = option_map (λ due. GraceSet due) (due_of g)

abbrev pub no_grace : Ledger → Option Refusal
no_grace g = reason_if (is_none (due_of g)) NoGrace

-- the clock is below the due tick
abbrev pub grace_runs : Cluster → Ledger → Option Refusal
grace_runs s g = option_and_then (λ due. reason_if (nat_lt s.parts.scalars.clock due) (GraceRuns due)) (due_of g)

-- the least entry that a recovery passes with fewer registered members of its write set than the ack quorum
abbrev pub too_few : Cluster → Ledger → Option Refusal
too_few s g =
    option_map (λ e. TooFew e)
    (find (λ e. nat_lt (length (up_writes s g e)) g.metadata.ack_quorum) (recovered_entries s g))

-- the members that lack the first entry that can't be read, and say so, are too few: those left could be an ack
-- quorum of it
abbrev pub undecided : Cluster → Ledger → Option Refusal
undecided s g =
    let end = recovered_end s g in
    reason_if (nat_lt (length (up_writes s g end)) (g.metadata.write_quorum - g.metadata.ack_quorum + 1))
    (Undecided end)

-- Open ledgers: another ensemble

-- a new fragment is needed, and there are as many as there can be
abbrev pub fragments_full : Cluster → Ledger → Option Refusal
fragments_full s g = reason_if (is_rolling_over s g && nat_le MAX_FRAGMENTS (length g.metadata.fragments)) FragmentsFull

abbrev pub entry_end : Cluster → Ledger → Option Refusal
entry_end s g = reason_if (next_entry s g == ENTRY_END) EntryEnd

-- Copies and swaps

-- the stored version is not the one that is named
abbrev pub stale_version : Ledger → ℕ → Option Refusal
stale_version g version = reason_if (not (g.metadata.version == version)) (Stale g.metadata.version)

abbrev pub no_index : Ledger → ℕ → Option Refusal
no_index g i = reason_if (not (nat_lt i g.metadata.size)) NoIndex

abbrev pub member_up : Cluster → Fragment → ℕ → Option Refusal
member_up s fragment i = reason_if (is_up s (slice_index fragment.ensemble i)) MemberUp

abbrev pub target_down : Cluster → ℕ → Option Refusal
target_down s b = reason_if (not (is_up s b)) TargetDown

abbrev pub target_is_member : Fragment → ℕ → Option Refusal
target_is_member fragment b = reason_if (list_any (λ member. member == b) fragment.ensemble) TargetIsMember

abbrev pub no_endpoint : Ledger → ℕ → Option Refusal
no_endpoint g f = reason_if (is_none (stop_of g.metadata f)) NoEndpoint

-- why the bookie can't take that index of the fragment's ensemble: there is no such fragment or index, the member
-- there is registered, the bookie is not, it is a member already, or the fragment has no stop
abbrev pub no_place : Cluster → ℕ → Ledger → ℕ → ℕ → Option Refusal
no_place s b g f i =
    at_fragment g f (λ fragment. no_index g i ∷ member_up s fragment i ∷ target_down s b ∷ target_is_member fragment b
    ∷ no_endpoint g f ∷ [])

-- the least striped entry that can't be read
abbrev pub no_source : Cluster → Ledger → ℕ → ℕ → Option Refusal
no_source s g f i =
    at_fragment g f (λ fragment.
    option_map (λ e. NoSource e) (find (λ e. not (is_readable s g fragment e)) (stripe_of g.metadata f i)) ∷ [])

-- the least striped entry that the bookie lacks
abbrev pub missing_entry : Cluster → ℕ → Ledger → ℕ → ℕ → Option Refusal
missing_entry s b g f i =
    option_map (λ e. MissingEntry e) (find (λ e. not (holds s b g.id e)) (stripe_of g.metadata f i))

abbrev pub version_end : Ledger → Option Refusal
version_end g = reason_if (g.metadata.version == MAX_VERSION) VersionEnd
