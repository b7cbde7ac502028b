-- Worked runs of open ledgers: grace, ensemble changes by the writer, fences and recoveries, on the open ledger of the five bookies.
use Rattle.std.specs.Prelude.{◌≡◌, refl, ℕ, ◌^◌, ◌==◌, ◌||◌, nat_lt, List, [], ◌∷◌, ◌++◌, map, Option, Some, None}
use Rattle.std.specs.Option.{option_map, option_and_then}
use Rattle.reh_types.specs.declared.locks.Lock.{Lock}
use Rattle.reh_types.specs.declared.moves.Event.{Event}
use Rattle.reh_types.specs.declared.moves.Event.TheVariants.{Lose, Join, Audit, Acquire, Grace, Tick, Roll, Fence, Seal, Copy}
use Rattle.reh_types.specs.declared.moves.Move.{Move}
use Rattle.reh_types.specs.declared.moves.Move.TheVariants.{Do, Undo}
use Rattle.reh_types.specs.declared.moves.Reply.{Reply}
use Rattle.reh_types.specs.declared.moves.Reply.TheVariants.{Done, Refused}
use Rattle.reh_types.specs.declared.names.LedgerState.TheVariants.{Open, InRecovery, Closed}
use Rattle.reh_types.specs.declared.refusals.Refusal.TheVariants.{NoBookie, NoLedger, NoTask, NotOwner, NotOpen, NotNeeded, GraceSet, GraceRuns, NoGrace, ClockEnd, NoIndex, MemberUp, TargetDown, TargetIsMember, Undecided, TooFew, NotRecovering, FragmentsFull, EntryEnd, VersionEnd}
use Rattle.reh_types.specs.Sets.{contains, insert, retain, remove, empty, from_list, union, items, is_subset, is_empty, len}
use Rattle.reh_model.specs.Striping.{range}
use Rattle.reh_model.specs.Contents.{count_held}
use Rattle.reh_model.specs.Metadata.{Fragment, Metadata}
use Rattle.reh_model.specs.Cluster.{Cluster, Ledger, ledger_at, stop_at, with_clock, with_held, with_ledgers}
use Rattle.reh_model.specs.Session.{opened_session, state_of}
use Rattle.reh_model.proofs.Examples.{replies, played_session}
use Rattle.reh_model.proofs.TaskExamples.{five_bookies, closed_ledger, open_ledger}
use Rattle.reh_model.proofs.CopyExamples.{entries_of}

-- Runs and what they leave

-- the replies to events
abbrev answers : Cluster → List Event → List Reply
answers s events = replies (opened_session s) (map Do events)

-- the state after moves
abbrev state_after : Cluster → List Move → Cluster
state_after s moves = state_of (played_session (opened_session s) moves)

-- the metadata of a ledger
abbrev metadata_of : Cluster → ℕ → Option Metadata
metadata_of s ledger = option_map (λ g. g.metadata) (ledger_at s ledger)

-- its lock
abbrev lock_of : Cluster → ℕ → Option Lock
lock_of s ledger = option_and_then (λ g. g.lock) (ledger_at s ledger)

-- the second bookie is lost, and the fourth bookie's worker locks the open ledger's task
abbrev loss_and_lock : List Event
loss_and_lock = Lose 1 ∷ Audit ∷ Acquire 3 9 ∷ []

-- the second and the third bookie are lost
abbrev losses_and_lock : List Event
losses_and_lock = Lose 1 ∷ Lose 2 ∷ Audit ∷ Acquire 3 9 ∷ []

-- its grace passes, and the ledger is fenced and sealed
abbrev fence_and_seal : List Event
fence_and_seal = Grace 3 9 ∷ Tick 3 ∷ Fence 3 9 ∷ Seal 3 9 ∷ []

-- Clusters

-- the five bookies with another open ledger beside the closed one
abbrev with_ledger : Ledger → Cluster
with_ledger g = with_ledgers five_bookies (closed_ledger ∷ g ∷ [])

-- the open ledger with other metadata
abbrev with_metadata : Metadata → Cluster
with_metadata m = with_ledger (record open_ledger { metadata = m })

-- a fragment from that entry on, on the first three bookies
abbrev fragment_from : ℕ → Fragment
fragment_from first = record { first = first; ensemble = 0 ∷ 1 ∷ 2 ∷ [] }

-- nobody holds an entry of the open ledger
abbrev without_entries : Cluster
without_entries = with_held five_bookies (retain five_bookies.parts.held (λ t. t.1 == 7))

-- 2 of 3 members are written to, the last fragment begins at entry 2, and nobody holds an entry from 3 on
abbrev two_written : Cluster
two_written = with_held (with_metadata (record open_ledger.metadata { write_quorum = 2; fragments = fragment_from 0 ∷ fragment_from 2 ∷ [] })) (retain five_bookies.parts.held (λ t. t.1 == 7 || nat_lt t.2 3))

-- the metadata of an empty second fragment
abbrev empty_fragment : Metadata
empty_fragment = record open_ledger.metadata { fragments = fragment_from 0 ∷ fragment_from 5 ∷ [] }

-- the first bookie holds the last entry that there can be
abbrev at_last_entry : Ledger → Cluster
at_last_entry g = with_held (with_ledgers five_bookies (closed_ledger ∷ record g { words = 1024 } ∷ [])) (insert five_bookies.parts.held (0, 9, 65535))

-- the open ledger has as many fragments as there can be, the last one from entry 255 on, which the first bookie holds
abbrev full_ledger : Ledger
full_ledger = record open_ledger { metadata = record open_ledger.metadata { fragments = map fragment_from (range 0 256) }; words = 4 }

abbrev with_last_fragment_held : Ledger → Cluster
with_last_fragment_held g = with_held (with_ledger g) (insert five_bookies.parts.held (0, 9, 255))

-- a ledger at the last version
abbrev at_last_version : Ledger → Ledger
at_last_version g = record g { metadata = record g.metadata { version = 10 ^ 12 } }

-- a ledger in recovery, whose last fragment begins at the last entry, which the first bookie holds
abbrev recovery_at_last_entry : Cluster
recovery_at_last_entry = with_held (with_ledgers five_bookies (record { id = 3; metadata = record { size = 3; write_quorum = 3; ack_quorum = 2; state = InRecovery; version = 0; fragments = fragment_from 0 ∷ fragment_from 65535 ∷ [] }; words = 1024; task = None; lock = None } ∷ five_bookies.parts.ledgers)) (insert five_bookies.parts.held (0, 3, 65535))

-- Fences and recoveries

-- a ledger is fenced once its grace is over, and sealed
pub fenced_and_sealed : answers five_bookies (loss_and_lock ++ Grace 3 9 ∷ Fence 3 9 ∷ Tick 3 ∷ Fence 3 9 ∷ Seal 3 9 ∷ [])
    ≡ Done ∷ Done ∷ Done ∷ Done ∷ Refused (GraceRuns 3) ∷ Done ∷ Done ∷ Done ∷ []
unfolding contains insert retain remove empty from_list union items is_subset is_empty len
fenced_and_sealed = refl

-- it is closed after the entry that one registered member alone holds
pub metadata_sealed : metadata_of (state_after five_bookies (map Do (loss_and_lock ++ fence_and_seal))) 9
    ≡ Some (record { size = 3; write_quorum = 3; ack_quorum = 2; state = Closed 5; version = 2; fragments = fragment_from 0 ∷ [] })
unfolding contains insert retain remove empty from_list union items is_subset is_empty len
metadata_sealed = refl

-- which the other one holds then, too
pub held_sealed : count_held (state_after five_bookies (map Do (loss_and_lock ++ fence_and_seal))).parts.held 2
    ≡ 9
unfolding contains insert retain remove empty from_list union items is_subset is_empty len
held_sealed = refl

-- the undo of the seal leaves a ledger in recovery
pub metadata_unsealed : metadata_of (state_after five_bookies (map Do (loss_and_lock ++ fence_and_seal) ++ Undo ∷ [])) 9
    ≡ Some (record { size = 3; write_quorum = 3; ack_quorum = 2; state = InRecovery; version = 1; fragments = fragment_from 0 ∷ [] })
unfolding contains insert retain remove empty from_list union items is_subset is_empty len
metadata_unsealed = refl

-- and takes the copy back
pub held_unsealed : count_held (state_after five_bookies (map Do (loss_and_lock ++ fence_and_seal) ++ Undo ∷ [])).parts.held 2
    ≡ 8
unfolding contains insert retain remove empty from_list union items is_subset is_empty len
held_unsealed = refl

-- an ack quorum of registered members is needed for each entry that can be read, and that is asked before the first one that cannot
pub too_few_members : answers five_bookies (losses_and_lock ++ fence_and_seal)
    ≡ Done ∷ Done ∷ Done ∷ Done ∷ Done ∷ Done ∷ Done ∷ Refused (TooFew 0) ∷ []
unfolding contains insert retain remove empty from_list union items is_subset is_empty len
too_few_members = refl

-- enough registered members must lack the first entry that cannot be read
pub too_few_lack : answers without_entries (losses_and_lock ++ fence_and_seal)
    ≡ Done ∷ Done ∷ Done ∷ Done ∷ Done ∷ Done ∷ Done ∷ Refused (Undecided 0) ∷ []
unfolding contains insert retain remove empty from_list union items is_subset is_empty len
too_few_lack = refl

-- where 2 of 3 members are written to and both have to answer, an entry with one registered member of its write set has too few
pub too_few_of_two : answers (with_metadata (record open_ledger.metadata { write_quorum = 2 })) (loss_and_lock ++ fence_and_seal)
    ≡ Done ∷ Done ∷ Done ∷ Done ∷ Done ∷ Done ∷ Refused (TooFew 0) ∷ []
unfolding contains insert retain remove empty from_list union items is_subset is_empty len
too_few_of_two = refl

-- and one is enough to tell that an entry was not acknowledged: entry 2 is passed, and entry 3 ends the ledger
pub one_tells : metadata_of (state_after two_written (map Do (loss_and_lock ++ fence_and_seal))) 9
    ≡ Some (record { size = 3; write_quorum = 2; ack_quorum = 2; state = Closed 3; version = 2; fragments = fragment_from 0 ∷ fragment_from 2 ∷ [] })
unfolding contains insert retain remove empty from_list union items is_subset is_empty len
one_tells = refl

-- where one answer is enough, two registered members have no too few, and cannot tell
pub two_cannot_tell : answers (with_metadata (record open_ledger.metadata { ack_quorum = 1 })) (loss_and_lock ++ fence_and_seal)
    ≡ Done ∷ Done ∷ Done ∷ Done ∷ Done ∷ Done ∷ Refused (Undecided 5) ∷ []
unfolding contains insert retain remove empty from_list union items is_subset is_empty len
two_cannot_tell = refl

-- a recovery can reach the last entry that there can be
pub recovery_to_the_end : answers recovery_at_last_entry (Lose 1 ∷ Audit ∷ Acquire 3 3 ∷ Seal 3 3 ∷ [])
    ≡ Done ∷ Done ∷ Done ∷ Done ∷ []
unfolding contains insert retain remove empty from_list union items is_subset is_empty len
recovery_to_the_end = refl

-- and ends past it
pub metadata_at_the_end : metadata_of (state_after recovery_at_last_entry (map Do (Lose 1 ∷ Audit ∷ Acquire 3 3 ∷ Seal 3 3 ∷ []))) 3
    ≡ Some (record { size = 3; write_quorum = 3; ack_quorum = 2; state = Closed 65536; version = 1; fragments = fragment_from 0 ∷ fragment_from 65535 ∷ [] })
unfolding contains insert retain remove empty from_list union items is_subset is_empty len
metadata_at_the_end = refl

-- which is the last fragment's stop
pub stop_at_the_end : stop_at (state_after recovery_at_last_entry (map Do (Lose 1 ∷ Audit ∷ Acquire 3 3 ∷ Seal 3 3 ∷ []))) 3 1
    ≡ Some 65536
unfolding contains insert retain remove empty from_list union items is_subset is_empty len
stop_at_the_end = refl

-- where it copies that entry
pub held_at_the_end : entries_of (state_after recovery_at_last_entry (map Do (Lose 1 ∷ Audit ∷ Acquire 3 3 ∷ Seal 3 3 ∷ []))) 2 3
    ≡ 65535 ∷ []
unfolding contains insert retain remove empty from_list union items is_subset is_empty len
held_at_the_end = refl

-- a last fragment without entries is sealed empty
pub sealed_empty : metadata_of (state_after (with_metadata empty_fragment) (map Do (loss_and_lock ++ fence_and_seal))) 9
    ≡ Some (record empty_fragment { state = Closed 5; version = 2 })
unfolding contains insert retain remove empty from_list union items is_subset is_empty len
sealed_empty = refl

-- a grace can be of no ticks, and is granted once; a ledger is fenced once and sealed once
pub each_once : answers (record five_bookies { grace = 0 }) (loss_and_lock ++ Fence 3 9 ∷ Grace 3 9 ∷ Grace 3 9 ∷ Fence 3 9 ∷ Fence 3 9 ∷ Seal 3 9 ∷ Seal 3 9 ∷ [])
    ≡ Done ∷ Done ∷ Done ∷ Refused NoGrace ∷ Done ∷ Refused (GraceSet 0) ∷ Done ∷ Refused NotOpen ∷ Done ∷ Refused NotRecovering ∷ []
unfolding contains insert retain remove empty from_list union items is_subset is_empty len
each_once = refl

-- then it is closed after its last entry
pub metadata_once : metadata_of (state_after (record five_bookies { grace = 0 }) (map Do (loss_and_lock ++ Grace 3 9 ∷ Fence 3 9 ∷ Seal 3 9 ∷ []))) 9
    ≡ Some (record open_ledger.metadata { state = Closed 5; version = 2 })
unfolding contains insert retain remove empty from_list union items is_subset is_empty len
metadata_once = refl

-- a grace can end past the clock, and then no fence is due
pub grace_past_the_clock : answers (with_clock five_bookies (10 ^ 9)) (loss_and_lock ++ Grace 3 9 ∷ Fence 3 9 ∷ Tick 1 ∷ [])
    ≡ Done ∷ Done ∷ Done ∷ Done ∷ Refused (GraceRuns 1000000003) ∷ Refused ClockEnd ∷ []
unfolding contains insert retain remove empty from_list union items is_subset is_empty len
grace_past_the_clock = refl

-- Ensemble changes by the writer

-- the writer needs no lock, and takes the due tick away; then its ledger needs no grace and no fence, and the entries of the former fragment can be copied
pub rolled_over : answers five_bookies (loss_and_lock ++ Grace 3 9 ∷ Roll 9 1 4 ∷ Grace 3 9 ∷ Fence 3 9 ∷ Copy 3 9 0 1 1 ∷ [])
    ≡ Done ∷ Done ∷ Done ∷ Done ∷ Done ∷ Refused NotNeeded ∷ Refused NotNeeded ∷ Done ∷ []
unfolding contains insert retain remove empty from_list union items is_subset is_empty len
rolled_over = refl

-- the member that the last fragment has at the index is asked for, and not the one before it
pub rolled_again : answers five_bookies (Lose 1 ∷ Roll 9 1 4 ∷ Roll 9 1 3 ∷ [])
    ≡ Done ∷ Done ∷ Refused MemberUp ∷ []
unfolding contains insert retain remove empty from_list union items is_subset is_empty len
rolled_again = refl

-- a new fragment begins after the entries that are held
pub metadata_rolled_over : metadata_of (state_after five_bookies (map Do (loss_and_lock ++ Grace 3 9 ∷ Roll 9 1 4 ∷ []))) 9
    ≡ Some (record { size = 3; write_quorum = 3; ack_quorum = 2; state = Open; version = 1; fragments = fragment_from 0 ∷ record { first = 5; ensemble = 0 ∷ 4 ∷ 2 ∷ [] } ∷ [] })
unfolding contains insert retain remove empty from_list union items is_subset is_empty len
metadata_rolled_over = refl

-- where the former one stops
pub stop_rolled_over : stop_at (state_after five_bookies (map Do (loss_and_lock ++ Grace 3 9 ∷ Roll 9 1 4 ∷ []))) 9 0
    ≡ Some 5
unfolding contains insert retain remove empty from_list union items is_subset is_empty len
stop_rolled_over = refl

-- and the new one has no stop
pub no_stop_rolled_over : stop_at (state_after five_bookies (map Do (loss_and_lock ++ Grace 3 9 ∷ Roll 9 1 4 ∷ []))) 9 1
    ≡ None
unfolding contains insert retain remove empty from_list union items is_subset is_empty len
no_stop_rolled_over = refl

-- the lock stays, without a due tick
pub lock_rolled_over : lock_of (state_after five_bookies (map Do (loss_and_lock ++ Grace 3 9 ∷ Roll 9 1 4 ∷ []))) 9
    ≡ Some (record { owner = 3; due = None })
unfolding contains insert retain remove empty from_list union items is_subset is_empty len
lock_rolled_over = refl

-- the copy gives the entries of the former fragment
pub held_rolled_over : entries_of (state_after five_bookies (map Do (loss_and_lock ++ Grace 3 9 ∷ Roll 9 1 4 ∷ Copy 3 9 0 1 1 ∷ []))) 3 9
    ≡ 0 ∷ 1 ∷ 2 ∷ 3 ∷ 4 ∷ []
unfolding contains insert retain remove empty from_list union items is_subset is_empty len
held_rolled_over = refl

-- while no entry of the last fragment is held, a member is replaced in place, once
pub rolled_in_place : answers without_entries (Lose 1 ∷ Roll 9 1 4 ∷ Roll 9 1 3 ∷ Audit ∷ Acquire 3 9 ∷ [])
    ≡ Done ∷ Done ∷ Refused MemberUp ∷ Done ∷ Refused NoTask ∷ []
unfolding contains insert retain remove empty from_list union items is_subset is_empty len
rolled_in_place = refl

-- and the fragment begins where it began
pub metadata_rolled_in_place : metadata_of (state_after without_entries (Do (Lose 1) ∷ Do (Roll 9 1 4) ∷ [])) 9
    ≡ Some (record { size = 3; write_quorum = 3; ack_quorum = 2; state = Open; version = 1; fragments = record { first = 0; ensemble = 0 ∷ 4 ∷ 2 ∷ [] } ∷ [] })
unfolding contains insert retain remove empty from_list union items is_subset is_empty len
metadata_rolled_in_place = refl

-- other fragments stay
pub fragments_rolled_in_place : option_map (λ m. m.fragments) (metadata_of (state_after (with_metadata empty_fragment) (Do (Lose 1) ∷ Do (Roll 9 1 4) ∷ [])) 9)
    ≡ Some (fragment_from 0 ∷ record { first = 5; ensemble = 0 ∷ 4 ∷ 2 ∷ [] } ∷ [])
unfolding contains insert retain remove empty from_list union items is_subset is_empty len
fragments_rolled_in_place = refl

-- an entry counts that a bookie outside of the ensemble holds, also while that is not registered
pub entries_of_others_count : stop_at (state_after (with_held five_bookies (insert five_bookies.parts.held (4, 9, 7))) (Do (Lose 1) ∷ Do (Lose 4) ∷ Do (Roll 9 1 3) ∷ [])) 9 0
    ≡ Some 8
unfolding contains insert retain remove empty from_list union items is_subset is_empty len
entries_of_others_count = refl

-- after the last entry that there can be no fragment begins
pub no_entry_behind_the_last : answers (at_last_entry open_ledger) (Lose 1 ∷ Roll 9 1 4 ∷ [])
    ≡ Done ∷ Refused EntryEnd ∷ []
unfolding contains insert retain remove empty from_list union items is_subset is_empty len
no_entry_behind_the_last = refl

-- beside 256 fragments there is no room for another one
pub no_room_for_a_fragment : answers (with_last_fragment_held full_ledger) (Lose 1 ∷ Roll 9 1 4 ∷ [])
    ≡ Done ∷ Refused FragmentsFull ∷ []
unfolding contains insert retain remove empty from_list union items is_subset is_empty len
no_room_for_a_fragment = refl

-- but a member of the last one can be replaced in place
pub in_place_beside_256 : answers (with_ledger full_ledger) (Lose 1 ∷ Roll 9 1 4 ∷ [])
    ≡ Done ∷ Done ∷ []
unfolding contains insert retain remove empty from_list union items is_subset is_empty len
in_place_beside_256 = refl

-- The order of refusals

-- of a grace
pub order_of_grace : answers five_bookies (loss_and_lock ++ Grace 5 8 ∷ Grace 3 8 ∷ Grace 3 7 ∷ Acquire 3 7 ∷ Join 1 ∷ Grace 3 7 ∷ Lose 1 ∷ Grace 3 9 ∷ Join 1 ∷ Grace 3 9 ∷ Lose 1 ∷ Grace 3 9 ∷ [])
    ≡ Done ∷ Done ∷ Done ∷ Refused NoBookie ∷ Refused NoLedger ∷ Refused NotOwner ∷ Done ∷ Done ∷ Refused NotOpen ∷ Done ∷ Done ∷ Done ∷ Refused NotNeeded ∷ Done ∷ Refused (GraceSet 3) ∷ []
unfolding contains insert retain remove empty from_list union items is_subset is_empty len
order_of_grace = refl

-- of a fence
pub order_of_fence : answers (with_ledger (at_last_version open_ledger)) (loss_and_lock ++ Fence 5 8 ∷ Fence 3 8 ∷ Fence 3 7 ∷ Acquire 3 7 ∷ Join 1 ∷ Fence 3 7 ∷ Fence 3 9 ∷ Lose 1 ∷ Fence 3 9 ∷ Grace 3 9 ∷ Fence 3 9 ∷ Tick 3 ∷ Fence 3 9 ∷ [])
    ≡ Done ∷ Done ∷ Done ∷ Refused NoBookie ∷ Refused NoLedger ∷ Refused NotOwner ∷ Done ∷ Done ∷ Refused NotOpen ∷ Refused NotNeeded ∷ Done ∷ Refused NoGrace ∷ Done ∷ Refused (GraceRuns 3) ∷ Done ∷ Refused VersionEnd ∷ []
unfolding contains insert retain remove empty from_list union items is_subset is_empty len
order_of_fence = refl

-- of a seal, up to the state
pub order_of_seal : answers (with_ledger (at_last_version open_ledger)) (losses_and_lock ++ Seal 5 8 ∷ Seal 3 8 ∷ Seal 3 7 ∷ Seal 3 9 ∷ [])
    ≡ Done ∷ Done ∷ Done ∷ Done ∷ Refused NoBookie ∷ Refused NoLedger ∷ Refused NotOwner ∷ Refused NotRecovering ∷ []
unfolding contains insert retain remove empty from_list union items is_subset is_empty len
order_of_seal = refl

-- the open ledger is in recovery, at the last version
abbrev recovery_at_last_version : Cluster
recovery_at_last_version = with_metadata (record open_ledger.metadata { state = InRecovery; version = 10 ^ 12 })

-- after it: too few members, then those that lack the first entry that cannot be read, then the version
pub order_of_recovery : answers recovery_at_last_version (losses_and_lock ++ Seal 3 9 ∷ Join 2 ∷ Seal 3 9 ∷ [])
    ≡ Done ∷ Done ∷ Done ∷ Done ∷ Refused (TooFew 0) ∷ Done ∷ Refused VersionEnd ∷ []
unfolding contains insert retain remove empty from_list union items is_subset is_empty len
order_of_recovery = refl

-- a ledger without entries is undecided before it is at the last version
pub undecided_before_version : answers (with_held recovery_at_last_version without_entries.parts.held) (losses_and_lock ++ Seal 3 9 ∷ [])
    ≡ Done ∷ Done ∷ Done ∷ Done ∷ Refused (Undecided 0) ∷ []
unfolding contains insert retain remove empty from_list union items is_subset is_empty len
undecided_before_version = refl

-- of an ensemble change by the writer, up to the entry
pub order_of_roll : answers (at_last_entry (at_last_version full_ledger)) (Lose 1 ∷ Roll 8 3 5 ∷ Roll 8 3 1 ∷ Roll 7 3 1 ∷ Roll 9 3 1 ∷ Roll 9 0 1 ∷ Roll 9 1 1 ∷ Roll 9 1 2 ∷ Roll 9 1 4 ∷ [])
    ≡ Done ∷ Refused NoBookie ∷ Refused NoLedger ∷ Refused NotOpen ∷ Refused NoIndex ∷ Refused MemberUp ∷ Refused TargetDown ∷ Refused TargetIsMember ∷ Refused EntryEnd ∷ []
unfolding contains insert retain remove empty from_list union items is_subset is_empty len
order_of_roll = refl

-- then the fragments
pub fragments_before_version : answers (with_last_fragment_held (at_last_version full_ledger)) (Lose 1 ∷ Roll 9 1 4 ∷ [])
    ≡ Done ∷ Refused FragmentsFull ∷ []
unfolding contains insert retain remove empty from_list union items is_subset is_empty len
fragments_before_version = refl

-- and the version, also in place
pub version_of_roll : answers (with_ledger (at_last_version open_ledger)) (Lose 1 ∷ Roll 9 1 4 ∷ []) ++ answers (with_held (with_ledger (at_last_version open_ledger)) without_entries.parts.held) (Lose 1 ∷ Roll 9 1 4 ∷ [])
    ≡ Done ∷ Refused VersionEnd ∷ Done ∷ Refused VersionEnd ∷ []
unfolding contains insert retain remove empty from_list union items is_subset is_empty len
version_of_roll = refl
