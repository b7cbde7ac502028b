-- Worked scans and posts: the fourth bookie's worker scans for the lost second bookie.
use Rattle.std.specs.Prelude.{◌≡◌, refl, ℕ, List, [], ◌∷◌, ◌++◌, map, Option, Some, None}
use Rattle.reh_types.specs.declared.contents.Content.{Content}
use Rattle.reh_types.specs.declared.moves.Event.{Event}
use Rattle.reh_types.specs.declared.moves.Event.TheVariants.{Lose, Audit, Acquire, Copy}
use Rattle.reh_types.specs.declared.moves.Move.TheVariants.{Do, Post, Undo}
use Rattle.reh_types.specs.declared.moves.Reply.TheVariants.{Done, Refused}
use Rattle.reh_types.specs.declared.names.Aim.{Aim}
use Rattle.reh_types.specs.declared.names.LedgerState.TheVariants.{Closed}
use Rattle.reh_types.specs.declared.refusals.Refusal.{Refusal}
use Rattle.reh_types.specs.declared.refusals.Refusal.TheVariants.{NoBookie, NoLedger, NotOwner, NoFragment, NoIndex, MemberUp, TargetDown, TargetIsMember, NoEndpoint, Stale, NoSource, SourceGone}
use Rattle.reh_types.specs.Sets.{contains, insert, retain, remove, empty, from_list, union, items, is_subset, is_empty, len}
use Rattle.reh_model.specs.Cluster.{Cluster, with_held, with_ledgers}
use Rattle.reh_model.specs.Scan.{scan, aim_refusal, post_refusal}
use Rattle.reh_model.specs.Session.{opened_session, state_of}
use Rattle.reh_model.proofs.Examples.{replies, played_session}
use Rattle.reh_model.proofs.TaskExamples.{five_bookies, row}
use Rattle.reh_model.proofs.CopyExamples.{loss_and_lock, bookies_without_a_source, entries_of}

-- a place of the closed ledger's fragment
abbrev pub aim_at : ℕ → ℕ → Aim
aim_at worker index = record { worker = worker; ledger = 7; fragment = 0; index = index }

-- the place of the lost bookie, for the fourth one
abbrev pub aim : Aim
aim = aim_at 3 1

-- the state in which it is lost, and that one's worker holds the lock
abbrev started : Cluster → Cluster
started s = state_of (played_session (opened_session s) (loss_and_lock 7))

abbrev start : Cluster
start = started five_bookies

-- what a scan finds there
abbrev pub seen : Content
seen = record { aim = aim; version = 0; first = 0; stop = 6; ensemble = 0 ∷ 1 ∷ 2 ∷ []; sources = Some 0 ∷ Some 2 ∷ Some 0 ∷ Some 2 ∷ [] }

-- the same with other sources
abbrev with_sources : List (Option ℕ) → Content
with_sources sources = record seen { sources = sources }

-- the refusals of contents that are posted there
abbrev refusals : List Content → List (Option Refusal)
refusals contents = map (post_refusal start) contents

-- Scans

-- each striped entry has its first registered holder by rank as its source
pub sources_by_rank : scan start aim ≡ Some seen
unfolding contains insert retain remove empty from_list union items is_subset is_empty len
sources_by_rank = refl

-- an entry without a registered holder has none
pub entry_without_source : scan (started bookies_without_a_source) aim ≡ Some (with_sources (Some 0 ∷ None ∷ Some 0 ∷ Some 2 ∷ []))
unfolding contains insert retain remove empty from_list union items is_subset is_empty len
entry_without_source = refl

-- a fragment that is not there is not scanned,
pub no_fragment_to_scan : scan start (record aim { fragment = 1 }) ≡ None
unfolding contains insert retain remove empty from_list union items is_subset is_empty len
no_fragment_to_scan = refl

-- nor is the last one of an open ledger
pub no_stop_to_scan : scan start (record aim { ledger = 9 }) ≡ None
unfolding contains insert retain remove empty from_list union items is_subset is_empty len
no_stop_to_scan = refl

-- a closed ledger on four bookies, each entry of which three of them were to hold; the first bookie lacks entry 4, and the third one entry 5
abbrev four_members : Cluster
four_members = with_held (with_ledgers five_bookies (record { id = 7; metadata = record { size = 4; write_quorum = 3; ack_quorum = 2; state = Closed 7; version = 8; fragments = record { first = 0; ensemble = 0 ∷ 1 ∷ 2 ∷ 4 ∷ [] } ∷ [] }; words = 1; task = None; lock = None } ∷ [])) (from_list (row 0 7 (0 ∷ 2 ∷ 3 ∷ 6 ∷ []) ++ row 1 7 (0 ∷ 1 ∷ 3 ∷ 4 ∷ 5 ∷ []) ++ row 2 7 (0 ∷ 1 ∷ 2 ∷ 4 ∷ 6 ∷ []) ++ row 4 7 (1 ∷ 2 ∷ 3 ∷ 5 ∷ 6 ∷ [])))

-- each of the two has a later member as its source
pub sources_of_three : scan (started four_members) aim
    ≡ Some (record { aim = aim; version = 8; first = 0; stop = 7; ensemble = 0 ∷ 1 ∷ 2 ∷ 4 ∷ []; sources = Some 0 ∷ Some 2 ∷ Some 4 ∷ Some 2 ∷ Some 4 ∷ [] })
unfolding contains insert retain remove empty from_list union items is_subset is_empty len
sources_of_three = refl

-- a closed ledger of two fragments on two bookies each; the first bookie lacks an entry of the second one, which a member of the first one holds
abbrev two_fragments : Cluster
two_fragments = with_held (with_ledgers five_bookies (record { id = 7; metadata = record { size = 2; write_quorum = 2; ack_quorum = 1; state = Closed 4; version = 1; fragments = record { first = 0; ensemble = 0 ∷ 2 ∷ [] } ∷ record { first = 2; ensemble = 1 ∷ 0 ∷ [] } ∷ [] }; words = 1; task = None; lock = None } ∷ [])) (from_list (row 0 7 (0 ∷ 1 ∷ 3 ∷ []) ++ row 1 7 (2 ∷ 3 ∷ []) ++ row 2 7 (0 ∷ 1 ∷ 2 ∷ [])))

-- members of other fragments are no sources
pub sources_of_the_fragment : scan (started two_fragments) (record aim { fragment = 1; index = 0 })
    ≡ Some (record { aim = record aim { fragment = 1; index = 0 }; version = 1; first = 2; stop = 4; ensemble = 1 ∷ 0 ∷ []; sources = None ∷ Some 0 ∷ [] })
unfolding contains insert retain remove empty from_list union items is_subset is_empty len
sources_of_the_fragment = refl

-- Aims

-- the refusals of aims after more events
abbrev aim_refusals : List Event → List Aim → List (Option Refusal)
aim_refusals more aims = map (aim_refusal (state_of (played_session (opened_session five_bookies) (loss_and_lock 7 ++ map Do more)))) aims

-- a place that can be taken
pub aim_to_take : aim_refusals [] (aim ∷ []) ≡ None ∷ []
unfolding contains insert retain remove empty from_list union items is_subset is_empty len
aim_to_take = refl

-- the order of refusals, up to the member
pub order_of_aims : aim_refusals [] (record { worker = 5; ledger = 8; fragment = 1; index = 3 } ∷ record { worker = 3; ledger = 8; fragment = 1; index = 3 } ∷ record { worker = 4; ledger = 7; fragment = 1; index = 3 } ∷ record { worker = 3; ledger = 7; fragment = 1; index = 3 } ∷ aim_at 3 3 ∷ aim_at 3 0 ∷ [])
    ≡ Some NoBookie ∷ Some NoLedger ∷ Some NotOwner ∷ Some NoFragment ∷ Some NoIndex ∷ Some MemberUp ∷ []
unfolding contains insert retain remove empty from_list union items is_subset is_empty len
order_of_aims = refl

-- then the worker's bookie
pub aim_of_a_lost_worker : aim_refusals (Lose 3 ∷ []) (aim_at 3 0 ∷ aim ∷ []) ≡ Some MemberUp ∷ Some TargetDown ∷ []
unfolding contains insert retain remove empty from_list union items is_subset is_empty len
aim_of_a_lost_worker = refl

-- which is no member of an ensemble yet, and then the stop
pub aim_without_stop : aim_refusals (Acquire 2 9 ∷ []) (record { worker = 2; ledger = 9; fragment = 0; index = 1 } ∷ []) ++ aim_refusals (Acquire 3 9 ∷ []) (record aim { ledger = 9 } ∷ [])
    ≡ Some TargetIsMember ∷ Some NoEndpoint ∷ []
unfolding contains insert retain remove empty from_list union items is_subset is_empty len
aim_without_stop = refl

-- Posts

-- what was seen can be posted while it is so
pub post_of_a_scan : refusals (seen ∷ []) ≡ None ∷ []
unfolding contains insert retain remove empty from_list union items is_subset is_empty len
post_of_a_scan = refl

-- each part of it has to be as it was: the version,
pub other_version : refusals (record seen { version = 1 } ∷ []) ≡ Some (Stale 0) ∷ []
unfolding contains insert retain remove empty from_list union items is_subset is_empty len
other_version = refl

-- the fragment's first entry and its stop,
pub other_entries : refusals (record seen { first = 1 } ∷ record seen { stop = 5 } ∷ record seen { stop = 7 } ∷ []) ≡ Some (Stale 0) ∷ Some (Stale 0) ∷ Some (Stale 0) ∷ []
unfolding contains insert retain remove empty from_list union items is_subset is_empty len
other_entries = refl

-- its ensemble, in that order,
pub other_ensemble : refusals (record seen { ensemble = 0 ∷ 4 ∷ 2 ∷ [] } ∷ record seen { ensemble = 0 ∷ 2 ∷ 1 ∷ [] } ∷ record seen { ensemble = 0 ∷ 1 ∷ [] } ∷ [])
    ≡ Some (Stale 0) ∷ Some (Stale 0) ∷ Some (Stale 0) ∷ []
unfolding contains insert retain remove empty from_list union items is_subset is_empty len
other_ensemble = refl

-- the fragment and the index, which have to be there,
pub other_place : refusals (record seen { aim = record aim { fragment = 1 } } ∷ record seen { aim = aim_at 3 3; sources = [] } ∷ []) ≡ Some (Stale 0) ∷ Some (Stale 0) ∷ []
unfolding contains insert retain remove empty from_list union items is_subset is_empty len
other_place = refl

-- and the number of sources
pub other_count : refusals (with_sources (Some 0 ∷ Some 2 ∷ Some 0 ∷ []) ∷ with_sources (Some 0 ∷ Some 2 ∷ Some 0 ∷ Some 2 ∷ None ∷ []) ∷ []) ≡ Some (Stale 0) ∷ Some (Stale 0) ∷ []
unfolding contains insert retain remove empty from_list union items is_subset is_empty len
other_count = refl

-- a fragment without a stop is as nobody saw it
pub no_stop_to_post : replies (opened_session five_bookies) (loss_and_lock 9 ++ Post (record seen { aim = record aim { ledger = 9 } }) ∷ []) ≡ Done ∷ Done ∷ Done ∷ Refused (Stale 0) ∷ []
unfolding contains insert retain remove empty from_list union items is_subset is_empty len
no_stop_to_post = refl

-- the lock is asked for first, and what was seen before the member is
pub order_of_posts : refusals (record seen { aim = record { worker = 5; ledger = 8; fragment = 1; index = 3 } } ∷ record seen { aim = record { worker = 3; ledger = 8; fragment = 1; index = 3 } } ∷ record seen { aim = record { worker = 4; ledger = 7; fragment = 1; index = 3 } } ∷ record seen { aim = aim_at 3 0; version = 1 } ∷ record (with_sources (None ∷ None ∷ None ∷ None ∷ [])) { aim = aim_at 3 0 } ∷ [])
    ≡ Some NoBookie ∷ Some NoLedger ∷ Some NotOwner ∷ Some (Stale 0) ∷ Some MemberUp ∷ []
unfolding contains insert retain remove empty from_list union items is_subset is_empty len
order_of_posts = refl

-- an entry without a source refuses the post, as it refuses the copy
pub post_without_source : replies (opened_session bookies_without_a_source) (loss_and_lock 7 ++ Do (Copy 3 7 0 1 0) ∷ Post (with_sources (Some 0 ∷ None ∷ Some 0 ∷ Some 2 ∷ [])) ∷ [])
    ≡ Done ∷ Done ∷ Done ∷ Refused (NoSource 1) ∷ Refused (NoSource 1) ∷ []
unfolding contains insert retain remove empty from_list union items is_subset is_empty len
post_without_source = refl

-- a source has to be in the entry's write set,
pub source_of_other_entries : refusals (with_sources (Some 2 ∷ Some 2 ∷ Some 0 ∷ Some 2 ∷ []) ∷ with_sources (Some 0 ∷ Some 2 ∷ Some 0 ∷ Some 4 ∷ []) ∷ []) ≡ Some (SourceGone 0) ∷ Some (SourceGone 4) ∷ []
unfolding contains insert retain remove empty from_list union items is_subset is_empty len
source_of_other_entries = refl

-- registered,
pub source_that_is_lost : refusals (with_sources (Some 0 ∷ Some 2 ∷ Some 1 ∷ Some 2 ∷ []) ∷ []) ≡ Some (SourceGone 3) ∷ []
unfolding contains insert retain remove empty from_list union items is_subset is_empty len
source_that_is_lost = refl

-- and to hold the entry
pub source_without_the_entry : post_refusal (started bookies_without_a_source) seen ≡ Some (SourceGone 1)
unfolding contains insert retain remove empty from_list union items is_subset is_empty len
source_without_the_entry = refl

-- of two entries that are lost the least one decides
pub least_lost_entry : refusals (with_sources (Some 0 ∷ None ∷ Some 2 ∷ Some 2 ∷ []) ∷ with_sources (Some 0 ∷ Some 0 ∷ None ∷ Some 2 ∷ []) ∷ []) ≡ Some (NoSource 1) ∷ Some (SourceGone 1) ∷ []
unfolding contains insert retain remove empty from_list union items is_subset is_empty len
least_lost_entry = refl

-- any source of the write set will do, not only the first by rank
pub other_source : post_refusal (started four_members) (record { aim = aim; version = 8; first = 0; stop = 7; ensemble = 0 ∷ 1 ∷ 2 ∷ 4 ∷ []; sources = Some 2 ∷ Some 4 ∷ Some 0 ∷ Some 2 ∷ Some 4 ∷ [] }) ≡ None
unfolding contains insert retain remove empty from_list union items is_subset is_empty len
other_source = refl

-- a post gives the worker's bookie the striped entries, and its undo takes them back
pub held_after_post : entries_of (state_of (played_session (opened_session five_bookies) (loss_and_lock 7 ++ Post seen ∷ []))) 3 7 ≡ 0 ∷ 1 ∷ 3 ∷ 4 ∷ []
unfolding contains insert retain remove empty from_list union items is_subset is_empty len
held_after_post = refl

pub held_after_undone_post : entries_of (state_of (played_session (opened_session five_bookies) (loss_and_lock 7 ++ Post seen ∷ Undo ∷ []))) 3 7 ≡ []
unfolding contains insert retain remove empty from_list union items is_subset is_empty len
held_after_undone_post = refl

-- a ticket is given also where an entry has no source,
pub aim_without_source : map (aim_refusal (started bookies_without_a_source)) (aim ∷ []) ≡ None ∷ []
unfolding contains insert retain remove empty from_list union items is_subset is_empty len
aim_without_source = refl

-- what was seen comes before the worker's bookie, the member before it, and it before the sources
pub posts_of_a_lost_worker : map (post_refusal (state_of (played_session (opened_session five_bookies) (loss_and_lock 7 ++ Do (Lose 3) ∷ [])))) (record seen { version = 1 } ∷ record seen { aim = aim_at 3 0 } ∷ with_sources (None ∷ None ∷ None ∷ None ∷ []) ∷ [])
    ≡ Some (Stale 0) ∷ Some MemberUp ∷ Some TargetDown ∷ []
unfolding contains insert retain remove empty from_list union items is_subset is_empty len
posts_of_a_lost_worker = refl

-- then it is no member, which comes before the sources too
abbrev posts_of_a_member : List Event → List (Option Refusal)
posts_of_a_member more = map (post_refusal (state_of (played_session (opened_session five_bookies) (map Do (Lose 1 ∷ Audit ∷ Acquire 2 7 ∷ more))))) (record (with_sources (None ∷ None ∷ None ∷ None ∷ [])) { aim = aim_at 2 1 } ∷ [])

pub order_of_members : posts_of_a_member [] ++ posts_of_a_member (Lose 2 ∷ []) ≡ Some TargetIsMember ∷ Some TargetDown ∷ []
unfolding contains insert retain remove empty from_list union items is_subset is_empty len
order_of_members = refl

-- a bookie outside the write set that holds the entry and is registered is no source of it
pub source_outside_the_write_set : map (post_refusal (started (with_held four_members (union four_members.parts.held (from_list (row 0 7 (1 ∷ 5 ∷ []) ++ row 3 7 (0 ∷ []))))))) (record (with_sources (Some 3 ∷ Some 2 ∷ Some 4 ∷ Some 2 ∷ Some 4 ∷ [])) { version = 8; stop = 7; ensemble = 0 ∷ 1 ∷ 2 ∷ 4 ∷ [] } ∷ record (with_sources (Some 0 ∷ Some 0 ∷ Some 4 ∷ Some 2 ∷ Some 4 ∷ [])) { version = 8; stop = 7; ensemble = 0 ∷ 1 ∷ 2 ∷ 4 ∷ [] } ∷ [])
    ≡ Some (SourceGone 0) ∷ Some (SourceGone 1) ∷ []
unfolding contains insert retain remove empty from_list union items is_subset is_empty len
source_outside_the_write_set = refl
