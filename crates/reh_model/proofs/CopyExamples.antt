-- Worked runs of copies and swaps: a closed ledger of the five bookies, whose second bookie is lost and whose task the fourth bookie's worker locks.
use Rattle.std.specs.Prelude.{◌≡◌, refl, ℕ, ◌^◌, ◌==◌, ◌&&◌, List, [], ◌∷◌, ◌++◌, map, Option, Some, None}
use Rattle.std.specs.List.{filter}
use Rattle.std.specs.Option.{option_map, option_and_then}
use Rattle.reh_types.specs.declared.locks.Lock.{Lock}
use Rattle.reh_types.specs.declared.moves.Event.TheVariants.{Lose, Audit, Acquire, Finish, Copy, Swap}
use Rattle.reh_types.specs.declared.moves.Move.{Move}
use Rattle.reh_types.specs.declared.moves.Move.TheVariants.{Do, Undo}
use Rattle.reh_types.specs.declared.moves.Reply.{Reply}
use Rattle.reh_types.specs.declared.moves.Reply.TheVariants.{Done, Refused}
use Rattle.reh_types.specs.declared.names.LedgerState.TheVariants.{Closed}
use Rattle.reh_types.specs.declared.refusals.Refusal.TheVariants.{MissingEntry, StillUnder, Stale, NoSource, VersionEnd}
use Rattle.reh_types.specs.Sets.{contains, insert, retain, remove, empty, from_list, union, items, is_subset, is_empty, len}
use Rattle.reh_model.specs.Metadata.{Metadata}
use Rattle.reh_model.specs.Cluster.{Cluster, ledger_at, with_held, with_ledgers}
use Rattle.reh_model.specs.Session.{opened_session, state_of}
use Rattle.reh_model.proofs.Examples.{replies, played_session}
use Rattle.reh_model.proofs.TaskExamples.{five_bookies, closed_ledger, open_ledger}

-- the second bookie is lost, and the fourth bookie's worker locks the ledger's task
abbrev pub loss_and_lock : ℕ → List Move
loss_and_lock ledger = Do (Lose 1) ∷ Do Audit ∷ Do (Acquire 3 ledger) ∷ []

-- what that worker then does for the lost member
abbrev copy : Move
copy = Do (Copy 3 7 0 1 0)

abbrev swap : Move
swap = Do (Swap 3 7 0 1 0)

abbrev finish : Move
finish = Do (Finish 3 7)

-- the replies to the moves after those that lock the closed ledger's task
abbrev answers : Cluster → List Move → List Reply
answers s moves = replies (played_session (opened_session s) (loss_and_lock 7)) moves

-- the state after them
abbrev state_after : Cluster → List Move → Cluster
state_after s moves = state_of (played_session (opened_session s) (loss_and_lock 7 ++ moves))

-- the entries of a ledger that a bookie holds
abbrev pub entries_of : Cluster → ℕ → ℕ → List ℕ
entries_of s bookie ledger = map (λ t. t.2) (filter (λ t. t.0 == bookie && t.1 == ledger) (items s.parts.held))

-- the metadata, the task and the lock of the closed ledger
abbrev metadata_of : Cluster → Option Metadata
metadata_of s = option_map (λ g. g.metadata) (ledger_at s 7)

abbrev task_of : Cluster → Option (List ℕ)
task_of s = option_and_then (λ g. option_map items g.task) (ledger_at s 7)

abbrev lock_of : Cluster → Option Lock
lock_of s = option_and_then (λ g. g.lock) (ledger_at s 7)

-- the fourth bookie holds one of the entries already
abbrev bookies_with_a_copy : Cluster
bookies_with_a_copy = with_held five_bookies (insert five_bookies.parts.held (3, 7, 3))

-- the third bookie lacks an entry that only the second one has besides
abbrev pub bookies_without_a_source : Cluster
bookies_without_a_source = with_held five_bookies (remove five_bookies.parts.held (2, 7, 1))

-- a closed ledger without entries stands beside the others
abbrev pub bookies_with_an_empty_ledger : Cluster
bookies_with_an_empty_ledger = with_ledgers five_bookies (record closed_ledger { id = 5; metadata = record closed_ledger.metadata { state = Closed 0 }; words = 0 } ∷ five_bookies.parts.ledgers)

-- the closed ledger is at the last version
abbrev cluster_at_last_version : Cluster
cluster_at_last_version = with_ledgers five_bookies (record closed_ledger { metadata = record closed_ledger.metadata { version = 10 ^ 12 } } ∷ open_ledger ∷ [])

-- a copy is made and undone
pub copy_and_undo : replies (opened_session bookies_with_a_copy) (loss_and_lock 7 ++ copy ∷ Undo ∷ []) ≡ Done ∷ Done ∷ Done ∷ Done ∷ Done ∷ []
unfolding contains insert retain remove empty from_list union items is_subset is_empty len
copy_and_undo = refl

-- the copy gives the striped entries beside the one that was held
pub held_after_copy : entries_of (state_after bookies_with_a_copy (copy ∷ [])) 3 7 ≡ 0 ∷ 1 ∷ 3 ∷ 4 ∷ []
unfolding contains insert retain remove empty from_list union items is_subset is_empty len
held_after_copy = refl

-- its undo leaves that one alone
pub held_after_undo : entries_of (state_after bookies_with_a_copy (copy ∷ Undo ∷ [])) 3 7 ≡ 3 ∷ []
unfolding contains insert retain remove empty from_list union items is_subset is_empty len
held_after_undo = refl

-- a swap needs the copy, and a finish the swap; then a swap at the version that has passed is stale
pub swap_after_copy : answers five_bookies (swap ∷ finish ∷ copy ∷ swap ∷ finish ∷ Undo ∷ swap ∷ [])
    ≡ Refused (MissingEntry 0) ∷ Refused (StillUnder 0) ∷ Done ∷ Done ∷ Done ∷ Done ∷ Refused (Stale 1) ∷ []
unfolding contains insert retain remove empty from_list union items is_subset is_empty len
swap_after_copy = refl

-- the worker's bookie is in the place, at the next version
pub metadata_after_swap : metadata_of (state_after five_bookies (swap ∷ finish ∷ copy ∷ swap ∷ finish ∷ Undo ∷ swap ∷ []))
    ≡ Some (record { size = 3; write_quorum = 2; ack_quorum = 2; state = Closed 6; version = 1; fragments = record { first = 0; ensemble = 0 ∷ 3 ∷ 2 ∷ [] } ∷ [] })
unfolding contains insert retain remove empty from_list union items is_subset is_empty len
metadata_after_swap = refl

-- the undone finish leaves the task
pub task_after_swap : task_of (state_after five_bookies (copy ∷ swap ∷ finish ∷ Undo ∷ [])) ≡ Some (1 ∷ [])
unfolding contains insert retain remove empty from_list union items is_subset is_empty len
task_after_swap = refl

-- and its lock
pub lock_after_swap : lock_of (state_after five_bookies (copy ∷ swap ∷ finish ∷ Undo ∷ [])) ≡ Some (record { owner = 3; due = None })
unfolding contains insert retain remove empty from_list union items is_subset is_empty len
lock_after_swap = refl

-- a ledger without entries needs no copy
pub swap_without_entries : replies (opened_session bookies_with_an_empty_ledger) (loss_and_lock 5 ++ Do (Swap 3 5 0 1 0) ∷ Do (Finish 3 5) ∷ []) ≡ Done ∷ Done ∷ Done ∷ Done ∷ Done ∷ []
unfolding contains insert retain remove empty from_list union items is_subset is_empty len
swap_without_entries = refl

-- and is at the next version then
pub version_without_entries : option_map (λ g. g.metadata.version) (ledger_at (state_of (played_session (opened_session bookies_with_an_empty_ledger) (loss_and_lock 5 ++ Do (Swap 3 5 0 1 0) ∷ Do (Finish 3 5) ∷ []))) 5)
    ≡ Some 1
unfolding contains insert retain remove empty from_list union items is_subset is_empty len
version_without_entries = refl

-- an entry that no registered member of its write set holds has no source
pub no_source_of_an_entry : answers bookies_without_a_source (copy ∷ []) ≡ Refused (NoSource 1) ∷ []
unfolding contains insert retain remove empty from_list union items is_subset is_empty len
no_source_of_an_entry = refl

-- a copy needs no new version, and a swap does
pub swap_at_the_last_version : answers cluster_at_last_version (Do (Copy 3 7 0 1 (10 ^ 12)) ∷ Do (Swap 3 7 0 1 (10 ^ 12)) ∷ []) ≡ Done ∷ Refused VersionEnd ∷ []
unfolding contains insert retain remove empty from_list union items is_subset is_empty len
swap_at_the_last_version = refl
