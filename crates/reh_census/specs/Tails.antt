-- Ledgers that aren't closed, writers, and places of fragments: of their entries nothing need be known.
use Rattle.std.specs.Prelude.{◌≡◌, ℕ, ◌≤◌, length, ◌+◌, ◌-◌, min, Bool, false, not, ◌&&◌, ◌||◌, ◌==◌, nat_le, nat_lt, List, map, max, count_by}
use Rattle.std.specs.Prelude.{slice_index, if◌then◌else◌}
use Rattle.std.specs.List.{list_any, list_all}
use Rattle.std.specs.Option.{option_map_or}
use Rattle.reh_census.specs.declared.censuses.Tail.{Tail}
use Rattle.reh_census.specs.declared.classes.Class.{Class}
use Rattle.reh_census.specs.declared.questions.Question.{Question}
use Rattle.reh_census.specs.Bookies.{Bookies, is_holder, is_holder_left, is_up, is_writable, none, writable}
use Rattle.reh_census.specs.Copies.{is_in}
use Rattle.reh_census.specs.Rules.{copies_to_keep}
use Rattle.reh_census.specs.Striping.{range, write_set}

-- what wasn't so before, and is so after
abbrev pub is_new : Bool → Bool → Bool
is_new before after = after && not before

-- whether the bookie is down, and would go for good with what is on its disk
abbrev pub takes_disk : Bookies → Question → (ℕ → Bool) → ℕ → Bool
takes_disk bookies question stopped b = question.for_good && (stopped b && not (bookies.is_registered b))

-- an entry with fewer known copies than are to be kept, where a disk would go for good that may have one more
abbrev pub needs_disk : Bookies → Question → (ℕ → Bool) → Class → Bool
needs_disk bookies question stopped class =
    nat_lt (length class.known) (copies_to_keep question.keep class.ack_quorum)
    && list_any (takes_disk bookies question stopped) bookies.names

-- Recoverable

-- the members of the tail's ensemble that carry an entry
abbrev pub members : Tail → ℕ → List ℕ
members tail entry = map (λ i. slice_index tail.ensemble i) (write_set entry tail.size tail.write_quorum)

-- how many members of each write set have to answer a recovery: then each acknowledged entry has a copy among them
abbrev pub quorum_of_recovery : ℕ → ℕ → ℕ
quorum_of_recovery write_quorum ack_quorum = write_quorum - ack_quorum + 1

-- whether acknowledged entries may be out of a recovery's reach: until the bookies are back
abbrev pub may_wait : Question → Bool
may_wait question = question.allow_blocked_recovery && not question.for_good

-- how many members of each write set are to stay
abbrev pub members_to_keep : Question → Tail → ℕ
members_to_keep question tail =
    if may_wait question then copies_to_keep question.keep tail.ack_quorum
    else max (copies_to_keep question.keep tail.ack_quorum) (quorum_of_recovery tail.write_quorum tail.ack_quorum)

-- whether a bookie that came back without its disk would be stopped, with what was written to it since
abbrev pub takes_refilled : Bookies → (ℕ → Bool) → ℕ → Bool
takes_refilled bookies stopped b = stopped b && (bookies.is_registered b && bookies.is_empty b)

-- whether the bookie may have copies that count for a recovery: now, once it is back, or until it is stopped
abbrev pub is_at_stake : Bookies → Question → (ℕ → Bool) → ℕ → Bool
is_at_stake bookies question stopped b =
    is_holder bookies b || (takes_disk bookies question stopped b || takes_refilled bookies stopped b)

-- whether the entry's write set keeps so many members, or all that it has
abbrev pub keeps_members : Bookies → Question → (ℕ → Bool) → Tail → ℕ → Bool
keeps_members bookies question stopped tail entry =
    nat_le
    (min (count_by (is_at_stake bookies question stopped) (members tail entry)) (members_to_keep question tail))
    (count_by (is_holder_left bookies stopped) (members tail entry))

-- whether each write set does
abbrev pub all_keep_members : Bookies → Question → (ℕ → Bool) → Tail → Bool
all_keep_members bookies question stopped tail =
    list_all (keeps_members bookies question stopped tail) (range 0 tail.size)

-- whether fewer bookies may be written to than an ensemble has
abbrev pub lacks_bookies : Bookies → (ℕ → Bool) → ℕ → Bool
lacks_bookies bookies stopped size = nat_lt (writable bookies stopped) size

-- whether fewer of the entry's write set may be written to than have to acknowledge it
abbrev pub lacks_acks : Bookies → (ℕ → Bool) → Tail → ℕ → Bool
lacks_acks bookies stopped tail entry =
    nat_lt (count_by (is_writable bookies stopped) (members tail entry)) tail.ack_quorum

-- whether some entry can't be written: its write set lacks acknowledgements, and no ensemble can be made
abbrev pub is_stuck : Bookies → (ℕ → Bool) → Tail → Bool
is_stuck bookies stopped tail =
    lacks_bookies bookies stopped tail.size && list_any (lacks_acks bookies stopped tail) (range 0 tail.size)

-- whether a recovery that has begun finds no ensemble: it writes at once, and a write that fails makes it look for one
abbrev pub lacks_ensemble : Bookies → (ℕ → Bool) → Tail → Bool
lacks_ensemble bookies stopped tail = not tail.is_open && lacks_bookies bookies stopped tail.size

-- whether the last entries can't be written again, and can now
abbrev pub blocks_recovery : Bookies → (ℕ → Bool) → Tail → Bool
blocks_recovery bookies stopped tail =
    is_new (is_stuck bookies none tail) (is_stuck bookies stopped tail)
    || is_new (lacks_ensemble bookies none tail) (lacks_ensemble bookies stopped tail)

-- some write set keeps too few members, or the last entries can't be written again, and can now
abbrev pub breaks_recoverable : Bookies → Question → (ℕ → Bool) → Tail → Bool
breaks_recoverable bookies question stopped tail =
    not (all_keep_members bookies question stopped tail)
    || (not question.allow_blocked_recovery && blocks_recovery bookies stopped tail)

-- Writable

-- whether a bookie that may be written to stands in the rack
abbrev pub has_writable : Bookies → (ℕ → Bool) → ℕ → Bool
has_writable bookies stopped rack =
    list_any (λ b. is_writable bookies stopped b && option_map_or (λ r. r == rack) (bookies.rack_of b) false) bookies.names

-- in how many racks such bookies stand
abbrev pub racks : Bookies → (ℕ → Bool) → ℕ
racks bookies stopped = count_by (has_writable bookies stopped) bookies.racks

-- whether they stand in fewer racks than are asked for
abbrev pub lacks_racks : Bookies → Question → (ℕ → Bool) → Bool
lacks_racks bookies question stopped = option_map_or (λ least. nat_lt (racks bookies stopped) least) question.min_racks false

-- no ensemble of this size can be made, and can now
abbrev pub loses_ensemble : Bookies → Question → (ℕ → Bool) → ℕ → Bool
loses_ensemble bookies question stopped size =
    is_new (lacks_bookies bookies none size) (lacks_bookies bookies stopped size)
    || is_new (lacks_racks bookies question none) (lacks_racks bookies question stopped)

-- the writer of an OPEN ledger finds no ensemble to go on with, or can't write an entry, and can now
abbrev pub breaks_writable : Bookies → Question → (ℕ → Bool) → Tail → Bool
breaks_writable bookies question stopped tail =
    (not question.allow_blocked_writers && tail.is_open)
    && (loses_ensemble bookies question stopped tail.size
    || is_new (is_stuck bookies none tail) (is_stuck bookies stopped tail))

-- new ledgers of the size that is asked for find no ensemble, and do now
abbrev pub breaks_new_ledgers : Bookies → Question → (ℕ → Bool) → Bool
breaks_new_ledgers bookies question stopped =
    not question.allow_blocked_writers && option_map_or (loses_ensemble bookies question stopped) question.ensemble false

-- Replaceable

-- how many bookies outside of the ensemble may be written to, and how many of its members are down or stopped
abbrev pub spares : Bookies → (ℕ → Bool) → List ℕ → ℕ
spares bookies stopped ensemble =
    count_by (λ b. is_writable bookies stopped b && not (is_in ensemble b)) bookies.names

abbrev pub down : Bookies → (ℕ → Bool) → List ℕ → ℕ
down bookies stopped ensemble = count_by (λ b. not (is_up bookies stopped b)) ensemble

-- how many of the places of members that are down or stopped find no other bookie
abbrev pub unplaced : Bookies → (ℕ → Bool) → List ℕ → ℕ
unplaced bookies stopped ensemble = down bookies stopped ensemble - spares bookies stopped ensemble

-- where the bookies go for good: more places find none than now
abbrev pub breaks_replaceable : Bookies → Question → (ℕ → Bool) → List ℕ → Bool
breaks_replaceable bookies question stopped ensemble =
    question.for_good && nat_lt (unplaced bookies none ensemble) (unplaced bookies stopped ensemble)

-- a well-formed tail
pub record IsTail (tail : Tail) : Type 0 where
  pub some_acks : 1 ≤ tail.ack_quorum
  pub acks_within : tail.ack_quorum ≤ tail.write_quorum
  pub writes_within : tail.write_quorum ≤ tail.size
  pub small : tail.size ≤ 64
  pub whole : length tail.ensemble ≡ tail.size
