-- What there is for ensembles, counted once.
use Rattle.std.specs.Prelude.{ℕ, Bool, false, not, ◌&&◌, ◌||◌, nat_lt}
use Rattle.std.specs.Option.{option_map_or}
use Rattle.reh_census.specs.declared.censuses.Tail.{Tail}
use Rattle.reh_census.specs.declared.questions.Question.{Question}
use Rattle.reh_census.specs.Bookies.{Bookies, none, writable}
use Rattle.reh_census.specs.Tails as tails
use Rattle.reh_rules.specs.declared.tails.Tails.{Tails}
use Rattle.reh_rules.specs.declared.writers.Room.{Room}

abbrev pub room_of : Bookies → Question → (ℕ → Bool) → Room
room_of bookies question stopped = record {
  writable_now = writable bookies none;
  writable_then = writable bookies stopped;
  lacks_racks_now = tails.lacks_racks bookies question none;
  lacks_racks_then = tails.lacks_racks bookies question stopped;
}

-- no ensemble of this size can be made, and can now
abbrev pub loses_ensemble : Room → ℕ → Bool
loses_ensemble room size =
    tails.is_new (nat_lt room.writable_now size) (nat_lt room.writable_then size)
    || tails.is_new room.lacks_racks_now room.lacks_racks_then

abbrev pub breaks_new_ledgers : Room → Question → Bool
breaks_new_ledgers room question =
    not question.allow_blocked_writers && option_map_or (loses_ensemble room) question.ensemble false

-- a recovery that has begun finds no ensemble, where so many bookies may be written to
abbrev pub lacks_ensemble : ℕ → Tail → Bool
lacks_ensemble writable_bookies tail = not tail.is_open && nat_lt writable_bookies tail.size

-- the last entries can't be written again, and can now; some entry can't be written, and could, or that isn't so
abbrev pub blocks_recovery : Room → Bool → Tail → Bool
blocks_recovery room newly_stuck tail =
    newly_stuck || tails.is_new (lacks_ensemble room.writable_now tail) (lacks_ensemble room.writable_then tail)

-- a ledger breaks a rule
abbrev pub breaks_recoverable : Bookies → Question → (ℕ → Bool) → Room → Bool → Tail → Bool
breaks_recoverable bookies question stopped room newly_stuck tail =
    not (tails.all_keep_members bookies question stopped tail)
    || (not question.allow_blocked_recovery && blocks_recovery room newly_stuck tail)

abbrev pub breaks_writable : Question → Room → Bool → Tail → Bool
breaks_writable question room newly_stuck tail =
    (not question.allow_blocked_writers && tail.is_open) && (loses_ensemble room tail.size || newly_stuck)

-- how many ledgers that aren't closed break each rule, by a count of those that pass a test
abbrev pub tails_of : ((Tail → Bool) → ℕ) → Bookies → Question → (ℕ → Bool) → Tails
tails_of count bookies question stopped = record {
  recoverable = count (tails.breaks_recoverable bookies question stopped);
  writable = count (tails.breaks_writable bookies question stopped);
}
