-- Worked runs of the auditor, tasks and locks, on five bookies, a closed and an open ledger.
use Rattle.std.specs.Prelude.{◌≡◌, refl, ℕ, true, List, [], ◌∷◌, ◌++◌, codes, map, Option, None, Some}
use Rattle.std.specs.Option.{option_map}
use Rattle.reh_types.specs.declared.moves.Event.{Event}
use Rattle.reh_types.specs.declared.moves.Event.TheVariants.{Lose, Join, Audit, Acquire, Release, Finish, Expire, Tick, Copy, Swap, Disable, Enable}
use Rattle.reh_types.specs.declared.moves.Move.{Move}
use Rattle.reh_types.specs.declared.moves.Move.TheVariants.{Do, Undo}
use Rattle.reh_types.specs.declared.moves.Reply.{Reply}
use Rattle.reh_types.specs.declared.moves.Reply.TheVariants.{Done, Refused}
use Rattle.reh_types.specs.declared.names.LedgerState.TheVariants.{Open, Closed}
use Rattle.reh_types.specs.declared.refusals.Refusal.TheVariants.{NoBookie, NoLedger, NothingToPublish, NoTask, Locked, NotOwner, StillUnder, NoLocks, Disabled, AlreadyDisabled, AlreadyEnabled}
use Rattle.reh_types.specs.Sets.{contains, insert, retain, remove, empty, from_list, union, items, is_subset, is_empty, len}
use Rattle.reh_model.specs.Metadata.{Fragment}
use Rattle.reh_model.specs.Cluster.{Cluster, Ledger, with_held, with_ledgers}
use Rattle.reh_model.specs.Session.{opened_session, state_of}
use Rattle.reh_model.proofs.Examples.{clear_cluster, replies, played_session}

-- a ledger with one fragment from entry 0, on the first three bookies
abbrev first_three : List Fragment
first_three = record { first = 0; ensemble = 0 ∷ 1 ∷ 2 ∷ [] } ∷ []

abbrev pub closed_ledger : Ledger
closed_ledger = record { id = 7; metadata = record { size = 3; write_quorum = 2; ack_quorum = 2; state = Closed 6; version = 0; fragments = first_three }; words = 1; task = None; lock = None }

abbrev pub open_ledger : Ledger
open_ledger = record { id = 9; metadata = record { size = 3; write_quorum = 3; ack_quorum = 2; state = Open; version = 0; fragments = first_three }; words = 1; task = None; lock = None }

-- (bookie, ledger, entry) for each entry of a list
abbrev pub row : ℕ → ℕ → List ℕ → List (ℕ × ℕ × ℕ)
row bookie ledger entries = map (λ e. (bookie, ledger, e)) entries

-- five registered bookies, and the two ledgers
abbrev pub five_bookies : Cluster
five_bookies =
    let started = clear_cluster (codes "b1:3181" ∷ codes "b2:3181" ∷ codes "b3:3181" ∷ codes "b4:3181" ∷ codes "b5:3181" ∷ []) in
    with_held (with_ledgers started (closed_ledger ∷ open_ledger ∷ []))
    (from_list (row 0 7 (0 ∷ 2 ∷ 3 ∷ 5 ∷ []) ++ row 1 7 (0 ∷ 1 ∷ 3 ∷ 4 ∷ []) ++ row 2 7 (1 ∷ 2 ∷ 4 ∷ 5 ∷ [])
    ++ row 0 9 (0 ∷ 1 ∷ 2 ∷ 3 ∷ 4 ∷ []) ++ row 1 9 (0 ∷ 1 ∷ 2 ∷ 3 ∷ []) ++ row 2 9 (0 ∷ 1 ∷ 2 ∷ 3 ∷ [])))

-- the replies to events
abbrev pub answers : List Event → List Reply
answers events = replies (opened_session five_bookies) (map Do events)

-- the state after them
abbrev state_after : List Event → Cluster
state_after events = state_of (played_session (opened_session five_bookies) (map Do events))

-- the tasks of the ledgers, in picture order
abbrev tasks_after : List Event → List (Option (List ℕ))
tasks_after events = map (λ g. option_map items g.task) (state_after events).parts.ledgers

-- the owners of their locks
abbrev owners_after : List Event → List (Option ℕ)
owners_after events = map (λ g. option_map (λ lock. lock.owner) g.lock) (state_after events).parts.ledgers

abbrev locks_and_expiries : List Event
locks_and_expiries = Lose 1 ∷ Audit ∷ Audit ∷ Acquire 3 7 ∷ Acquire 4 7 ∷ Expire 3 ∷ Acquire 4 7 ∷ Expire 3 ∷ []

-- a task is published once, one worker holds its lock, and an expired worker holds none
pub tasks_and_locks : answers locks_and_expiries
    ≡ Done ∷ Done ∷ Refused NothingToPublish ∷ Done ∷ Refused (Locked 3) ∷ Done ∷ Done ∷ Refused NoLocks ∷ []
unfolding contains insert retain remove empty from_list union items is_subset is_empty len
tasks_and_locks = refl

-- both ledgers have a task for the lost bookie
pub tasks_of_a_lost_bookie : tasks_after locks_and_expiries ≡ Some (1 ∷ []) ∷ Some (1 ∷ []) ∷ []
unfolding contains insert retain remove empty from_list union items is_subset is_empty len
tasks_of_a_lost_bookie = refl

-- the second worker's lock stays when the first expires
pub expiry_spares_others : owners_after locks_and_expiries ≡ Some 4 ∷ None ∷ []
unfolding contains insert retain remove empty from_list union items is_subset is_empty len
expiry_spares_others = refl

-- locks are given back by their owners, and a task is finished where no member is missing any more
pub finished_after_a_join : answers (Lose 1 ∷ Audit ∷ Acquire 3 7 ∷ Release 4 7 ∷ Release 3 7 ∷ Release 3 7 ∷ Acquire 4 7 ∷ Finish 4 7 ∷ Join 1 ∷ Finish 4 7 ∷ Acquire 4 7 ∷ [])
    ≡ Done ∷ Done ∷ Done ∷ Refused NotOwner ∷ Done ∷ Refused NotOwner ∷ Done ∷ Refused (StillUnder 0) ∷ Done ∷ Done ∷ Refused NoTask ∷ []
unfolding contains insert retain remove empty from_list union items is_subset is_empty len
finished_after_a_join = refl

-- a second audit adds to the tasks, also what has joined again stays
pub audits_unite : tasks_after (Lose 1 ∷ Audit ∷ Join 1 ∷ Lose 2 ∷ Audit ∷ []) ≡ Some (1 ∷ 2 ∷ []) ∷ Some (1 ∷ 2 ∷ []) ∷ []
unfolding contains insert retain remove empty from_list union items is_subset is_empty len
audits_unite = refl

-- the worker is judged before the ledger, and the ledger before its task
pub workers_before_ledgers : answers (Acquire 5 8 ∷ Acquire 4 8 ∷ Acquire 4 7 ∷ Release 5 8 ∷ Finish 4 8 ∷ Expire 5 ∷ Audit ∷ [])
    ≡ Refused NoBookie ∷ Refused NoLedger ∷ Refused NoTask ∷ Refused NoBookie ∷ Refused NoLedger ∷ Refused NoBookie ∷ Refused NothingToPublish ∷ []
unfolding contains insert retain remove empty from_list union items is_subset is_empty len
workers_before_ledgers = refl

-- The delay for lost bookies

-- five bookies, where an audit waits for two ticks after a loss
abbrev pub patient : Cluster
patient = record five_bookies { delay = 2 }

-- the second bookie is lost, and a tick later the third; the second joins again before the delay of the third is over
abbrev losses_in_turn : List Event
losses_in_turn = Lose 1 ∷ Audit ∷ Tick 1 ∷ Lose 2 ∷ Tick 1 ∷ Audit ∷ Join 1 ∷ Audit ∷ Tick 1 ∷ Audit ∷ []

-- an audit waits for each bookie by itself
pub audits_wait : replies (opened_session patient) (map Do losses_in_turn)
    ≡ Done ∷ Refused NothingToPublish ∷ Done ∷ Done ∷ Done ∷ Done ∷ Done ∷ Refused NothingToPublish ∷ Done ∷ Done ∷ []
unfolding contains insert retain remove empty from_list union items is_subset is_empty len
audits_wait = refl

-- the tasks and the registrations after moves
abbrev tasks_of : Cluster → List (Option (List ℕ))
tasks_of s = map (λ g. option_map items g.task) s.parts.ledgers

abbrev patient_after : List Move → Cluster
patient_after moves = state_of (played_session (opened_session patient) moves)

-- the first audit that publishes something publishes the bookie that is lost long enough, and not the other one
pub long_lost_alone : tasks_of (patient_after (map Do (Lose 1 ∷ Tick 1 ∷ Lose 2 ∷ Tick 1 ∷ Audit ∷ []))) ≡ Some (1 ∷ []) ∷ Some (1 ∷ []) ∷ []
unfolding contains insert retain remove empty from_list union items is_subset is_empty len
long_lost_alone = refl

-- the last one the other one, too
pub both_in_the_end : tasks_of (patient_after (map Do losses_in_turn)) ≡ Some (1 ∷ 2 ∷ []) ∷ Some (1 ∷ 2 ∷ []) ∷ []
unfolding contains insert retain remove empty from_list union items is_subset is_empty len
both_in_the_end = refl

-- an undo of the join brings back the tick of the loss
pub loss_comes_back : (patient_after (map Do losses_in_turn ++ Undo ∷ Undo ∷ Undo ∷ [])).parts.lost_at ≡ None ∷ Some 0 ∷ Some 1 ∷ None ∷ None ∷ []
unfolding contains insert retain remove empty from_list union items is_subset is_empty len
loss_comes_back = refl

-- AutoRecovery disabled and enabled

-- AutoRecovery is disabled while a worker has its task: it goes on, copies and swaps, and ends the task
abbrev maintenance : List Event
maintenance = Enable ∷ Lose 1 ∷ Audit ∷ Acquire 3 7 ∷ Disable ∷ Disable ∷ Audit ∷ Acquire 4 9 ∷ Copy 3 7 0 1 0 ∷ Swap 3 7 0 1 0 ∷ Finish 3 7 ∷ []

-- what a worker holds is its own, and nothing new is published or locked
pub held_locks_go_on : answers maintenance
    ≡ Refused AlreadyEnabled ∷ Done ∷ Done ∷ Done ∷ Done ∷ Refused AlreadyDisabled ∷ Refused Disabled ∷ Refused Disabled ∷ Done ∷ Done ∷ Done ∷ []
unfolding contains insert retain remove empty from_list union items is_subset is_empty len
held_locks_go_on = refl

-- it goes before all that refuses an audit or a lock
pub disabled_goes_first : answers (Disable ∷ Audit ∷ Acquire 5 8 ∷ Enable ∷ Audit ∷ Acquire 5 8 ∷ [])
    ≡ Done ∷ Refused Disabled ∷ Refused Disabled ∷ Done ∷ Refused NothingToPublish ∷ Refused NoBookie ∷ []
unfolding contains insert retain remove empty from_list union items is_subset is_empty len
disabled_goes_first = refl

-- the state after the maintenance and its four newest events undone, when another worker has locked the other ledger's task
abbrev undone_maintenance : Cluster
undone_maintenance = state_of (played_session (opened_session five_bookies) (map Do maintenance ++ Undo ∷ Undo ∷ Undo ∷ Undo ∷ Do (Acquire 4 9) ∷ []))

-- it is enabled again, and both tasks are locked
pub enabled_by_undo : undone_maintenance.parts.scalars.enabled ≡ true
unfolding contains insert retain remove empty from_list union items is_subset is_empty len
enabled_by_undo = refl

pub locked_after_undo : map (λ g. option_map (λ lock. lock.owner) g.lock) undone_maintenance.parts.ledgers ≡ Some 3 ∷ Some 4 ∷ []
unfolding contains insert retain remove empty from_list union items is_subset is_empty len
locked_after_undo = refl
