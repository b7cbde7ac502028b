-- Reading the lines of a census, after their first words.
use Rattle.std.specs.Prelude.{ℕ, Bool, List, [], ◌∷◌, length, Option, None, Some, Result, Ok, Err, codes, if◌then◌else◌}
use Rattle.std.specs.Str.{bytes_eq}
use Rattle.std.specs.Option.{option_map}
use Rattle.reh_census.specs.declared.censuses.CountedEnsemble.{CountedEnsemble}
use Rattle.reh_census.specs.declared.censuses.CountedTail.{CountedTail}
use Rattle.reh_census.specs.declared.censuses.Judged.{Judged}
use Rattle.reh_census.specs.declared.classes.Counted.{Counted}
use Rattle.reh_census_file.specs.declared.faults.Expected.{Expected}
use Rattle.reh_census_file.specs.declared.faults.Expected.TheVariants as expected
use Rattle.reh_census_file.specs.declared.faults.Keyword.TheVariants as word
use Rattle.reh_census_file.specs.declared.lines.BookieLine.{BookieLine as BookieLineHeld}
use Rattle.reh_census_file.specs.Reading.{◌>>=◌, flag_at, choice_at, number_at, count_at, number_behind, name_at, bookies_at, bookies_behind, no_more}

-- a bookie, as its line has it
pub record BookieLine : Type 0 where
  pub name : List ℕ
  pub is_registered : Bool
  pub is_read_only : Bool
  pub is_empty : Bool
  pub rack : Option (List ℕ)

-- what the line that is read stands for
abbrev pub seen : BookieLineHeld → BookieLine
seen line = record {
  name = line.name.now;
  is_registered = line.is_registered;
  is_read_only = line.is_read_only;
  is_empty = line.is_empty;
  rack = option_map (λ rack. rack.now) line.rack;
}

-- the name of a rack, and nothing after it
unfoldable pub rack_behind : List (List ℕ) → Result (Option (List ℕ)) Expected
rack_behind words = do
  name ← name_at words
  done ← no_more name.1
  Ok (Some name.0)

-- the rack, if there is one
unfoldable pub rack_at : List (List ℕ) → Result (Option (List ℕ)) Expected
rack_at [] = Ok None
rack_at (first ∷ words) =
    if bytes_eq first (codes "rack") then rack_behind words else Err expected.BookieEnd

unfoldable pub bookie_line_at : List (List ℕ) → Result BookieLine Expected
bookie_line_at words = do
  name ← name_at words
  up ← choice_at (codes "up") (codes "down") expected.UpOrDown name.1
  rack ← rack_at (flag_at word.Empty (flag_at word.ReadOnly up.1).1).1
  Ok (record {
    name = name.0;
    is_registered = up.0;
    is_read_only = (flag_at word.ReadOnly up.1).0;
    is_empty = (flag_at word.Empty (flag_at word.ReadOnly up.1).1).0;
    rack = rack;
  })

unfoldable pub judged_at : List (List ℕ) → Result Judged Expected
judged_at words = do
  ledgers ← number_at words
  assumed ← number_behind word.Assumed ledgers.1
  unread ← number_behind word.Unread assumed.1
  missing ← number_behind word.Missing unread.1
  done ← no_more missing.1
  Ok (record { ledgers = ledgers.0; assumed = assumed.0; unread = unread.0; missing = missing.0 })

unfoldable pub entries_at : List (List ℕ) → List (List ℕ) → Result Counted Expected
entries_at names words = do
  count ← count_at words
  write ← number_behind word.Write count.1
  ack ← number_behind word.Ack write.1
  known ← bookies_behind names word.Known ack.1
  untold ← bookies_behind names word.Untold known.1
  done ← no_more untold.1
  Ok (record {
    class = record { known = known.0; untold = untold.0; ack_quorum = ack.0; write_quorum = write.0 };
    count = count.0;
  })

unfoldable pub tail_at : List (List ℕ) → List (List ℕ) → Result CountedTail Expected
tail_at names words = do
  count ← count_at words
  state ← choice_at (codes "open") (codes "in-recovery") expected.OpenOrInRecovery count.1
  size ← number_behind word.Size state.1
  write ← number_behind word.Write size.1
  ack ← number_behind word.Ack write.1
  ensemble ← bookies_at names size.0 ack.1
  done ← no_more ensemble.1
  Ok (record {
    tail = record {
      size = size.0;
      write_quorum = write.0;
      ack_quorum = ack.0;
      is_open = state.0;
      ensemble = ensemble.0;
    };
    count = count.0;
  })

-- all words after the count are bookies
unfoldable pub ensemble_at : List (List ℕ) → List (List ℕ) → Result CountedEnsemble Expected
ensemble_at names words = do
  count ← count_at words
  members ← bookies_at names (length count.1) count.1
  Ok (record { members = members.0; count = count.0 })
