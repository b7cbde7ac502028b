-- Worked runs of copies and swaps in several fragments: a closed ledger of three, and an open one of two, over six bookies.
use Rattle.std.specs.Prelude.{◌≡◌, refl, ℕ, ◌^◌, List, [], ◌∷◌, ◌++◌, codes, map, None, Some}
use Rattle.reh_types.specs.declared.moves.Event.{Event}
use Rattle.reh_types.specs.declared.moves.Event.TheVariants.{Lose, Audit, Acquire, Tick, Copy, Swap}
use Rattle.reh_types.specs.declared.moves.Move.{Move}
use Rattle.reh_types.specs.declared.moves.Move.TheVariants.{Do, Undo, Redo}
use Rattle.reh_types.specs.declared.moves.Reply.{Reply}
use Rattle.reh_types.specs.declared.moves.Reply.TheVariants.{Done, Refused}
use Rattle.reh_types.specs.declared.names.LedgerState.TheVariants.{Open, Closed}
use Rattle.reh_types.specs.declared.refusals.Refusal.TheVariants.{NoBookie, NoLedger, NotOwner, NothingToRedo, NoFragment, NoIndex, MemberUp, TargetDown, TargetIsMember, NoEndpoint, Stale, NoSource, MissingEntry, VersionEnd}
use Rattle.reh_types.specs.Sets.{contains, insert, retain, remove, empty, from_list, union, items, is_subset, is_empty, len}
use Rattle.reh_model.specs.Metadata.{Metadata}
use Rattle.reh_model.specs.Cluster.{Cluster, Ledger, with_ledgers, with_held, with_registration}
use Rattle.reh_model.specs.Session.{Session, opened_session, state_of}
use Rattle.reh_model.proofs.Examples.{clear_cluster, replies, played_session}
use Rattle.reh_model.proofs.TaskExamples.{row}
use Rattle.reh_model.proofs.CopyExamples.{entries_of}

-- entries 0 to 3, 4 to 6 and 7 to 9: index 0 carries 0 2 3, 5 6 and 8 9, index 1 carries 0 1 3, 4 6 and 7 9, and index 2 carries 1 2, 4 5 and 7 8
abbrev closed_metadata : Metadata
closed_metadata = record {
  size = 3;
  write_quorum = 2;
  ack_quorum = 2;
  state = Closed 10;
  version = 4;
  fragments = record { first = 0; ensemble = 0 ∷ 1 ∷ 2 ∷ [] } ∷ record { first = 4; ensemble = 3 ∷ 2 ∷ 1 ∷ [] } ∷ record { first = 7; ensemble = 1 ∷ 3 ∷ 0 ∷ [] } ∷ [];
}

-- entries 0 to 4, and those from 5 on: index 3 carries 2 3 of the first fragment
abbrev open_metadata : Metadata
open_metadata = record {
  size = 4;
  write_quorum = 2;
  ack_quorum = 2;
  state = Open;
  version = 2;
  fragments = record { first = 0; ensemble = 2 ∷ 0 ∷ 3 ∷ 1 ∷ [] } ∷ record { first = 5; ensemble = 5 ∷ 1 ∷ 0 ∷ 2 ∷ [] } ∷ [];
}

-- the closed ledger, when the fifth bookie has taken the last place in the second fragment
abbrev swapped_metadata : Metadata
swapped_metadata = record closed_metadata {
  version = 5;
  fragments = record { first = 0; ensemble = 0 ∷ 1 ∷ 2 ∷ [] } ∷ record { first = 4; ensemble = 3 ∷ 2 ∷ 4 ∷ [] } ∷ record { first = 7; ensemble = 1 ∷ 3 ∷ 0 ∷ [] } ∷ [];
}

-- the ledger of that id, without a task
abbrev ledger_without_task : ℕ → Metadata → Ledger
ledger_without_task id metadata = record { id = id; metadata = metadata; words = 1; task = None; lock = None }

-- six registered bookies, and the two ledgers; each member holds what its indexes carry, but entry 5 of the open ledger is on the second bookie alone
abbrev six_bookies : Cluster
six_bookies =
    let started = clear_cluster (codes "b1:3181" ∷ codes "b2:3181" ∷ codes "b3:3181" ∷ codes "b4:3181" ∷ codes "b5:3181" ∷ codes "b6:3181" ∷ []) in
    with_held (with_ledgers started (ledger_without_task 7 closed_metadata ∷ ledger_without_task 9 open_metadata ∷ []))
    (from_list (row 0 7 (0 ∷ 2 ∷ 3 ∷ 7 ∷ 8 ∷ []) ++ row 1 7 (0 ∷ 1 ∷ 3 ∷ 4 ∷ 5 ∷ 8 ∷ 9 ∷ []) ++ row 2 7 (1 ∷ 2 ∷ 4 ∷ 6 ∷ []) ++ row 3 7 (5 ∷ 6 ∷ 7 ∷ 9 ∷ [])
    ++ row 0 9 (0 ∷ 1 ∷ 4 ∷ 6 ∷ []) ++ row 1 9 (2 ∷ 3 ∷ 5 ∷ []) ++ row 2 9 (0 ∷ 3 ∷ 4 ∷ 6 ∷ []) ++ row 3 9 (1 ∷ 2 ∷ [])))

-- the closed ledger is at the last version
abbrev cluster_at_last_version : Cluster
cluster_at_last_version = with_ledgers six_bookies (ledger_without_task 7 (record closed_metadata { version = 10 ^ 12 }) ∷ [])

-- some bookies are lost, and a worker locks a ledger's task
abbrev losses_and_lock : List ℕ → ℕ → ℕ → List Event
losses_and_lock losses worker ledger = map Lose losses ++ Audit ∷ Acquire worker ledger ∷ []

-- the replies to the moves after those
abbrev answers : List ℕ → ℕ → ℕ → List Move → List Reply
answers losses worker ledger moves = replies (played_session (opened_session six_bookies) (map Do (losses_and_lock losses worker ledger))) moves

-- the session and the state after them
abbrev session_of : List ℕ → ℕ → ℕ → List Move → Session
session_of losses worker ledger moves = played_session (opened_session six_bookies) (map Do (losses_and_lock losses worker ledger) ++ moves)

abbrev state_after : List ℕ → ℕ → ℕ → List Move → Cluster
state_after losses worker ledger moves = state_of (session_of losses worker ledger moves)

-- a copy and then a swap for that worker, ledger, fragment, index and version
abbrev both : ℕ → ℕ → ℕ → ℕ → ℕ → List Move
both worker ledger fragment index version = Do (Copy worker ledger fragment index version) ∷ Do (Swap worker ledger fragment index version) ∷ []

-- the replies where both have the same
abbrev twice : Reply → List Reply
twice reply = reply ∷ reply ∷ []

-- the bookies' entries of a ledger
abbrev all_entries : Cluster → ℕ → List (List ℕ)
all_entries s ledger = map (λ bookie. entries_of s bookie ledger) (0 ∷ 1 ∷ 2 ∷ 3 ∷ 4 ∷ 5 ∷ [])

abbrev all_metadata : Cluster → List Metadata
all_metadata s = map (λ g. g.metadata) s.parts.ledgers

-- what a worker's bookie that held nothing of the ledger holds of it after a copy
abbrev entries_after_copy : ℕ → ℕ → ℕ → ℕ → ℕ → List ℕ
entries_after_copy member ledger fragment index version = entries_of (state_after (member ∷ []) 4 ledger (Do (Copy 4 ledger fragment index version) ∷ [])) 4 ledger

-- in this order: bookie, ledger, lock, version, fragment, index, and whether the member there is registered
pub no_such_place : answers (1 ∷ []) 4 7 (both 6 8 3 3 0 ++ both 5 8 3 3 0 ++ both 5 7 3 3 0 ++ both 4 7 3 2 3 ++ both 4 7 3 3 4 ++ both 4 7 3 1 4 ++ both 4 7 2 3 4 ++ both 4 7 1 3 4
    ++ both 4 7 0 2 4 ++ both 4 7 1 0 4 ++ both 4 7 1 1 4 ++ both 4 7 2 1 4 ++ both 4 7 2 2 4)
    ≡ twice (Refused NoBookie) ++ twice (Refused NoLedger) ++ twice (Refused NotOwner) ++ twice (Refused (Stale 4)) ++ twice (Refused NoFragment) ++ twice (Refused NoFragment) ++ twice (Refused NoIndex) ++ twice (Refused NoIndex)
    ++ twice (Refused MemberUp) ++ twice (Refused MemberUp) ++ twice (Refused MemberUp) ++ twice (Refused MemberUp) ++ twice (Refused MemberUp)
unfolding contains insert retain remove empty from_list union items is_subset is_empty len
no_such_place = refl

-- the open ledger's fragments and indexes are its own; its last fragment has no stop, though an entry there has no source, and the one before has
pub open_last_fragment : answers (1 ∷ []) 4 9 (both 4 9 2 1 2 ++ both 4 9 0 4 2 ++ both 4 9 0 1 2 ++ both 4 9 1 3 2 ++ both 4 9 1 1 2 ++ both 4 9 0 3 2)
    ≡ twice (Refused NoFragment) ++ twice (Refused NoIndex) ++ twice (Refused MemberUp) ++ twice (Refused MemberUp) ++ twice (Refused NoEndpoint) ++ twice Done
unfolding contains insert retain remove empty from_list union items is_subset is_empty len
open_last_fragment = refl

-- a worker whose bookie is lost: the index and the member come before it, and it comes before the ensemble, the stop and the entries
pub lost_target : answers (1 ∷ 5 ∷ []) 5 7 (both 5 7 2 3 4 ++ both 5 7 2 1 4 ++ both 5 7 1 2 4 ++ both 5 7 2 0 4) ++ answers (1 ∷ 2 ∷ []) 2 7 (both 2 7 1 2 4 ++ both 2 7 1 1 4)
    ++ answers (1 ∷ 4 ∷ []) 4 9 (both 4 9 1 1 2) ++ answers (0 ∷ 1 ∷ []) 4 7 (both 4 7 1 2 4)
    ≡ twice (Refused NoIndex) ++ twice (Refused MemberUp) ++ twice (Refused TargetDown) ++ twice (Refused TargetDown) ++ twice (Refused TargetDown) ++ twice (Refused TargetDown)
    ++ twice (Refused TargetDown) ++ twice Done
unfolding contains insert retain remove empty from_list union items is_subset is_empty len
lost_target = refl

-- a worker whose bookie is another member: the member at the index comes before it, and it comes before the stop and the entries
pub target_in_the_ensemble : answers (1 ∷ []) 0 7 (both 0 7 0 2 4 ++ both 0 7 0 1 4 ++ both 0 7 2 0 4) ++ answers (1 ∷ 3 ∷ []) 2 7 (both 2 7 1 2 4) ++ answers (1 ∷ []) 5 9 (both 5 9 1 1 2)
    ≡ twice (Refused MemberUp) ++ twice (Refused TargetIsMember) ++ twice (Refused TargetIsMember) ++ twice (Refused TargetIsMember) ++ twice (Refused TargetIsMember)
unfolding contains insert retain remove empty from_list union items is_subset is_empty len
target_in_the_ensemble = refl

-- a member of other fragments may take a place in this one
pub member_of_another_fragment : answers (1 ∷ []) 0 7 (both 0 7 1 2 4) ++ answers (1 ∷ []) 2 7 (both 2 7 2 0 4) ++ answers (1 ∷ []) 3 7 (both 3 7 0 1 4) ++ answers (1 ∷ []) 5 9 (both 5 9 0 3 2)
    ≡ twice Done ++ twice Done ++ twice Done ++ twice Done
unfolding contains insert retain remove empty from_list union items is_subset is_empty len
member_of_another_fragment = refl

-- a swap names the least entry that is missing, also where some are held; a copy the least without a source, even one that the bookie holds by then
pub entries_of_the_fragment : answers (1 ∷ []) 2 7 (Do (Swap 2 7 2 0 4) ∷ []) ++ answers (1 ∷ []) 4 7 (Do (Swap 4 7 0 1 4) ∷ Do (Copy 4 7 0 1 4) ∷ Do (Swap 4 7 1 2 4) ∷ Do (Lose 3) ∷ both 4 7 1 2 4 ++ Do (Lose 2) ∷ both 4 7 0 2 4)
    ++ answers (1 ∷ []) 4 7 (Do (Copy 4 7 1 2 4) ∷ Do (Lose 3) ∷ both 4 7 1 2 4) ++ answers (1 ∷ 2 ∷ []) 4 7 (both 4 7 1 2 4)
    ≡ (Refused (MissingEntry 8) ∷ []) ++ (Refused (MissingEntry 0) ∷ Done ∷ Refused (MissingEntry 4) ∷ Done ∷ Refused (NoSource 5) ∷ Refused (MissingEntry 4) ∷ Done ∷ Refused (NoSource 1) ∷ Refused (MissingEntry 2) ∷ [])
    ++ (Done ∷ Done ∷ Refused (NoSource 5) ∷ Done ∷ []) ++ (Refused (NoSource 4) ∷ Refused (MissingEntry 4) ∷ [])
unfolding contains insert retain remove empty from_list union items is_subset is_empty len
entries_of_the_fragment = refl

-- what is missing comes before the last version
pub missing_at_the_last_version : replies (played_session (opened_session cluster_at_last_version) (map Do (losses_and_lock (1 ∷ []) 4 7))) (Do (Swap 4 7 2 0 (10 ^ 12)) ∷ both 4 7 2 0 (10 ^ 12))
    ≡ Refused (MissingEntry 8) ∷ Done ∷ Refused VersionEnd ∷ []
unfolding contains insert retain remove empty from_list union items is_subset is_empty len
missing_at_the_last_version = refl

-- each index of each closed fragment, and one of the open ledger
pub copied_entries : entries_after_copy 0 7 0 0 4 ∷ entries_after_copy 1 7 0 1 4 ∷ entries_after_copy 2 7 0 2 4 ∷ entries_after_copy 3 7 1 0 4 ∷ entries_after_copy 2 7 1 1 4 ∷ entries_after_copy 1 7 1 2 4 ∷ entries_after_copy 1 7 2 0 4 ∷ entries_after_copy 3 7 2 1 4 ∷ entries_after_copy 0 7 2 2 4 ∷ entries_after_copy 1 9 0 3 2 ∷ []
    ≡ (0 ∷ 2 ∷ 3 ∷ []) ∷ (0 ∷ 1 ∷ 3 ∷ []) ∷ (1 ∷ 2 ∷ []) ∷ (5 ∷ 6 ∷ []) ∷ (4 ∷ 6 ∷ []) ∷ (4 ∷ 5 ∷ []) ∷ (8 ∷ 9 ∷ []) ∷ (7 ∷ 9 ∷ []) ∷ (7 ∷ 8 ∷ []) ∷ (2 ∷ 3 ∷ []) ∷ []
unfolding contains insert retain remove empty from_list union items is_subset is_empty len
copied_entries = refl

-- a copy adds to what the worker's bookie held, and to nothing else
pub contents_after_copy : map (all_entries (state_after (1 ∷ []) 2 7 (Do (Copy 2 7 2 0 4) ∷ []))) (7 ∷ 9 ∷ [])
    ≡ ((0 ∷ 2 ∷ 3 ∷ 7 ∷ 8 ∷ []) ∷ (0 ∷ 1 ∷ 3 ∷ 4 ∷ 5 ∷ 8 ∷ 9 ∷ []) ∷ (1 ∷ 2 ∷ 4 ∷ 6 ∷ 8 ∷ 9 ∷ []) ∷ (5 ∷ 6 ∷ 7 ∷ 9 ∷ []) ∷ [] ∷ [] ∷ [])
    ∷ ((0 ∷ 1 ∷ 4 ∷ 6 ∷ []) ∷ (2 ∷ 3 ∷ 5 ∷ []) ∷ (0 ∷ 3 ∷ 4 ∷ 6 ∷ []) ∷ (1 ∷ 2 ∷ []) ∷ [] ∷ [] ∷ []) ∷ []
unfolding contains insert retain remove empty from_list union items is_subset is_empty len
contents_after_copy = refl

-- a copy leaves the metadata
pub metadata_after_copy : all_metadata (state_after (1 ∷ []) 4 7 (Do (Copy 4 7 1 2 4) ∷ [])) ≡ closed_metadata ∷ open_metadata ∷ []
unfolding contains insert retain remove empty from_list union items is_subset is_empty len
metadata_after_copy = refl

-- a swap changes one member of one fragment, at the next version; the other ledger's version is its own
pub metadata_after_swaps : map (λ moves. all_metadata (state_after (1 ∷ []) 4 7 moves)) (both 4 7 1 2 4 ∷ both 4 7 2 0 4 ∷ (both 4 7 1 2 4 ++ both 4 7 2 0 5 ++ Do (Acquire 5 9) ∷ both 5 9 0 3 2) ∷ [])
    ≡ (swapped_metadata ∷ open_metadata ∷ [])
    ∷ (record closed_metadata {
      version = 5;
      fragments = record { first = 0; ensemble = 0 ∷ 1 ∷ 2 ∷ [] } ∷ record { first = 4; ensemble = 3 ∷ 2 ∷ 1 ∷ [] } ∷ record { first = 7; ensemble = 4 ∷ 3 ∷ 0 ∷ [] } ∷ [];
    } ∷ open_metadata ∷ [])
    ∷ (record closed_metadata {
      version = 6;
      fragments = record { first = 0; ensemble = 0 ∷ 1 ∷ 2 ∷ [] } ∷ record { first = 4; ensemble = 3 ∷ 2 ∷ 4 ∷ [] } ∷ record { first = 7; ensemble = 4 ∷ 3 ∷ 0 ∷ [] } ∷ [];
    }
    ∷ record open_metadata {
      version = 3;
      fragments = record { first = 0; ensemble = 2 ∷ 0 ∷ 3 ∷ 5 ∷ [] } ∷ record { first = 5; ensemble = 5 ∷ 1 ∷ 0 ∷ 2 ∷ [] } ∷ [];
    } ∷ [])
    ∷ []
unfolding contains insert retain remove empty from_list union items is_subset is_empty len
metadata_after_swaps = refl

-- a swap leaves who is registered, the contents, the tasks, the locks and the clock
pub state_after_swap : state_after (1 ∷ []) 4 7 (both 4 7 1 2 4)
    ≡ with_held (with_ledgers (with_registration six_bookies 1 (Some 0)) (record {
      id = 7;
      metadata = swapped_metadata;
      words = 1;
      task = Some (from_list (1 ∷ []));
      lock = Some (record { owner = 4; due = None });
    }
    ∷ record { id = 9; metadata = open_metadata; words = 1; task = Some (from_list (1 ∷ [])); lock = None } ∷ [])) (union six_bookies.parts.held (from_list (row 4 7 (4 ∷ 5 ∷ []))))
unfolding contains insert retain remove empty from_list union items is_subset is_empty len
state_after_swap = refl

-- a copy of what is all held already is done, and nothing is undone any more
pub copy_of_what_is_held : answers (1 ∷ []) 4 7 (Do (Copy 4 7 2 0 4) ∷ Do (Tick 1) ∷ Undo ∷ Do (Copy 4 7 2 0 4) ∷ Redo ∷ []) ≡ Done ∷ Done ∷ Done ∷ Done ∷ Refused NothingToRedo ∷ []
unfolding contains insert retain remove empty from_list union items is_subset is_empty len
copy_of_what_is_held = refl

-- it survives as the others do
pub copies_survive : session_of (1 ∷ []) 4 7 (Do (Copy 4 7 2 0 4) ∷ Do (Tick 1) ∷ Undo ∷ Do (Copy 4 7 2 0 4) ∷ [])
    ≡ record { opening = six_bookies; done = Lose 1 ∷ Audit ∷ Acquire 4 7 ∷ Copy 4 7 2 0 4 ∷ Copy 4 7 2 0 4 ∷ []; undone = [] }
unfolding contains insert retain remove empty from_list union items is_subset is_empty len
copies_survive = refl

-- and its undo takes nothing of what the first one brought
pub undo_of_the_second_copy : map (λ moves. entries_of (state_after (1 ∷ []) 4 7 moves) 4 7) ((Do (Copy 4 7 2 0 4) ∷ Do (Copy 4 7 2 0 4) ∷ Undo ∷ []) ∷ (Do (Copy 4 7 2 0 4) ∷ Do (Copy 4 7 2 0 4) ∷ Undo ∷ Undo ∷ []) ∷ [])
    ≡ (8 ∷ 9 ∷ []) ∷ [] ∷ []
unfolding contains insert retain remove empty from_list union items is_subset is_empty len
undo_of_the_second_copy = refl

-- a copy and a swap, undone and redone in turn
abbrev undos_and_redos : List (List Move)
undos_and_redos = [] ∷ (Undo ∷ []) ∷ (Undo ∷ Undo ∷ []) ∷ (Undo ∷ Undo ∷ Redo ∷ []) ∷ (Undo ∷ Undo ∷ Redo ∷ Redo ∷ []) ∷ []

-- the redo of the copy gives its entries again
pub entries_after_redo : map (λ moves. entries_of (state_after (1 ∷ []) 4 7 (both 4 7 1 2 4 ++ moves)) 4 7) undos_and_redos
    ≡ (4 ∷ 5 ∷ []) ∷ (4 ∷ 5 ∷ []) ∷ [] ∷ (4 ∷ 5 ∷ []) ∷ (4 ∷ 5 ∷ []) ∷ []
unfolding contains insert retain remove empty from_list union items is_subset is_empty len
entries_after_redo = refl

-- and that of the swap the member and the version
pub metadata_after_redo : map (λ moves. all_metadata (state_after (1 ∷ []) 4 7 (both 4 7 1 2 4 ++ moves))) undos_and_redos
    ≡ (swapped_metadata ∷ open_metadata ∷ []) ∷ (closed_metadata ∷ open_metadata ∷ []) ∷ (closed_metadata ∷ open_metadata ∷ []) ∷ (closed_metadata ∷ open_metadata ∷ []) ∷ (swapped_metadata ∷ open_metadata ∷ []) ∷ []
unfolding contains insert retain remove empty from_list union items is_subset is_empty len
metadata_after_redo = refl
