-- Reading a census line by line: what was read so far, and what a line adds to it.
use Rattle.std.specs.Prelude.{ℕ, ◌+◌, ◌-◌, ◌^◌, ◌==◌, ◌&&◌, nat_le, nat_lt, not, Bool, true, if◌then◌else◌}
use Rattle.std.specs.Prelude.{List, [], ◌∷◌, ◌++◌, length, slice_get, position, Option, None, Some, is_some, unwrap_or}
use Rattle.std.specs.Prelude.{Result, Ok, Err, codes}
use Rattle.std.specs.List.{list_any}
use Rattle.std.specs.Option.{option_map, option_map_or}
use Rattle.std.specs.Ordering.{is_lt, on}
use Rattle.std.specs.Str.{bytes_eq}
use Rattle.std.specs.declared.cmp.Ordering.{Ordering}
use Rattle.reh_census.specs.declared.bookies.Bookie.{Bookie}
use Rattle.reh_census.specs.declared.censuses.CountedEnsemble.{CountedEnsemble}
use Rattle.reh_census.specs.declared.censuses.CountedTail.{CountedTail}
use Rattle.reh_census.specs.declared.censuses.Judged.{Judged}
use Rattle.reh_census.specs.declared.classes.Counted.{Counted}
use Rattle.reh_census.specs.Counting.{ensembles_in, entries_in, not_judged, tails_in}
use Rattle.reh_census.specs.Order.{class_cmp, names_cmp, tail_cmp}
use Rattle.reh_census_file.specs.Canonical.{are_quorums, are_copies, are_sizes, are_members}
use Rattle.reh_census_file.specs.declared.faults.Expected.{Expected}
use Rattle.reh_census_file.specs.declared.faults.Expected.TheVariants as expected
use Rattle.reh_census_file.specs.declared.faults.Part.{Part}
use Rattle.reh_census_file.specs.declared.faults.Part.TheVariants as part
use Rattle.reh_census_file.specs.declared.lists.TheConstants.{MAX_NAMES}
use Rattle.reh_census_file.specs.LineReading.{BookieLine, bookie_line_at, judged_at, entries_at, tail_at, ensemble_at}
use Rattle.reh_census_file.specs.Names.{with_name}
use Rattle.reh_census_file.specs.Reading.{◌>>=◌}

-- what the lines so far have told; the line of ledgers comes after those of bookies
pub record Draft : Type 0 where
  pub names : List (List ℕ)
  pub racks : List (List ℕ)
  pub bookies : List Bookie
  pub judged : Option Judged
  pub entries : List Counted
  pub tails : List CountedTail
  pub ensembles : List CountedEnsemble

abbrev pub no_lines : Draft
no_lines = record { names = []; racks = []; bookies = []; judged = None; entries = []; tails = []; ensembles = [] }

-- whether it comes after the last one
abbrev pub is_later : {X : Type 0} → (X → X → Ordering) → List X → X → Bool
is_later cmp xs x = option_map_or (λ last. is_lt (cmp last x)) (slice_get xs (length xs - 1)) true

-- What a line adds

-- which lines have come
abbrev pub part_of : Draft → Part
part_of d =
    if not (is_some d.judged) then part.Bookies
    else (if not (length d.ensembles == 0) then part.Ensembles
    else (if not (length d.tails == 0) then part.Tails else part.Entries))

abbrev pub other_line : {A : Type 0} → Draft → Result A Expected
other_line d = Err (expected.Line (part_of d))

-- the number of a rack: that of its name, or the next one
abbrev pub rack_number : List (List ℕ) → List ℕ → ℕ
rack_number racks name = unwrap_or (position (bytes_eq name) racks) (length racks)

abbrev pub racks_with : List (List ℕ) → Option (List ℕ) → List (List ℕ)
racks_with racks None = racks
racks_with racks (Some name) = with_name racks name

abbrev pub with_bookie : Draft → BookieLine → Draft
with_bookie d line = record d {
  names = d.names ++ line.name ∷ [];
  racks = racks_with d.racks line.rack;
  bookies = d.bookies ++ (record {
    is_registered = line.is_registered;
    is_read_only = line.is_read_only;
    is_empty = line.is_empty;
    rack = option_map (rack_number d.racks) line.rack;
  }) ∷ [];
}

unfoldable pub add_bookie : Draft → BookieLine → Result Draft Expected
add_bookie d line =
    if nat_le MAX_NAMES (length d.names) then Err expected.FewBookies
    else (if not (is_later names_cmp d.names line.name) then Err expected.LaterBookie
    else (if list_any (bytes_eq line.name) d.names then Err expected.LaterBookie
    else Ok (with_bookie d line)))

unfoldable pub add_judged : Draft → Judged → Result Draft Expected
add_judged d judged =
    if nat_le (not_judged judged) (2 ^ 63) then Ok (record d { judged = Some judged }) else Err expected.FewNotJudged

abbrev pub with_entries : Draft → Counted → Draft
with_entries d counted = record d { entries = d.entries ++ counted ∷ [] }

unfoldable pub add_entries : Draft → Counted → Result Draft Expected
add_entries d counted =
    if not (are_quorums counted.class) then Err expected.Quorums
    else (if not (are_copies d.bookies counted.class) then Err expected.Copies
    else (if not (is_later (on (λ c. c.class) class_cmp) d.entries counted) then Err expected.LaterEntries
    else (if nat_lt (2 ^ 63) (entries_in d.entries + counted.count) then Err expected.SmallerCounts
    else Ok (with_entries d counted))))

abbrev pub with_tail : Draft → CountedTail → Draft
with_tail d counted = record d { tails = d.tails ++ counted ∷ [] }

unfoldable pub add_tail : Draft → CountedTail → Result Draft Expected
add_tail d counted =
    if not (are_sizes counted.tail) then Err expected.Sizes
    else (if not (is_later (on (λ t. t.tail) tail_cmp) d.tails counted) then Err expected.LaterTail
    else (if nat_lt (2 ^ 63) (tails_in d.tails + counted.count) then Err expected.SmallerCounts
    else Ok (with_tail d counted)))

abbrev pub with_ensemble : Draft → CountedEnsemble → Draft
with_ensemble d counted = record d { ensembles = d.ensembles ++ counted ∷ [] }

unfoldable pub add_ensemble : Draft → CountedEnsemble → Result Draft Expected
add_ensemble d counted =
    if not (are_members counted.members) then Err expected.Members
    else (if not (is_later (on (λ e. e.members) names_cmp) d.ensembles counted) then Err expected.LaterEnsemble
    else (if nat_lt (2 ^ 63) (ensembles_in d.ensembles + counted.count) then Err expected.SmallerCounts
    else Ok (with_ensemble d counted)))

-- The lines, by their first words

-- bookies come before ledgers
unfoldable pub bookie_step : Draft → List (List ℕ) → Result Draft Expected
bookie_step d words =
    if is_some d.judged then other_line d else (bookie_line_at words >>= λ line. add_bookie d line)

unfoldable pub judged_step : Draft → List (List ℕ) → Result Draft Expected
judged_step d words =
    if is_some d.judged then other_line d else (judged_at words >>= λ judged. add_judged d judged)

-- and then entries, tails and ensembles
unfoldable pub entries_step : Draft → List (List ℕ) → Result Draft Expected
entries_step d words =
    if is_some d.judged && ((length d.tails == 0) && (length d.ensembles == 0))
    then (entries_at d.names words >>= λ counted. add_entries d counted) else other_line d

unfoldable pub tail_step : Draft → List (List ℕ) → Result Draft Expected
tail_step d words =
    if is_some d.judged && (length d.ensembles == 0)
    then (tail_at d.names words >>= λ counted. add_tail d counted) else other_line d

unfoldable pub ensemble_step : Draft → List (List ℕ) → Result Draft Expected
ensemble_step d words =
    if is_some d.judged then (ensemble_at d.names words >>= λ counted. add_ensemble d counted) else other_line d

unfoldable pub step : Draft → List ℕ → List (List ℕ) → Result Draft Expected
step d first words =
    if bytes_eq first (codes "bookie") then bookie_step d words
    else (if bytes_eq first (codes "ledgers") then judged_step d words
    else (if bytes_eq first (codes "entries") then entries_step d words
    else (if bytes_eq first (codes "tail") then tail_step d words
    else (if bytes_eq first (codes "ensemble") then ensemble_step d words else other_line d))))
