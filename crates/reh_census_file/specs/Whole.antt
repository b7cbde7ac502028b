-- Reading a whole text: its lines from the first to the last, or the first line that isn't what is expected, and what was.
use Rattle.std.specs.Prelude.{◌≡◌, ℕ, ◌+◌, ◌==◌, ◌&&◌, Bool, if◌then◌else◌, List, [], ◌∷◌, length, drop, Option, is_some, unwrap_or}
use Rattle.std.specs.Prelude.{Result, Ok, Err, codes}
use Rattle.std.specs.List.{slice_split}
use Rattle.std.specs.Str.{bytes_eq}
use Rattle.reh_census.specs.declared.censuses.Judged.{Judged}
use Rattle.reh_census.specs.Counting.{census_by}
use Rattle.reh_census_file.specs.declared.faults.CensusFault.{CensusFault}
use Rattle.reh_census_file.specs.declared.faults.CensusFault.TheVariants as fault
use Rattle.reh_census_file.specs.declared.faults.Expected.{Expected}
use Rattle.reh_census_file.specs.declared.faults.Expected.TheVariants as expected
use Rattle.reh_census_file.specs.declared.faults.LineFault.{LineFault}
use Rattle.reh_census_file.specs.declared.faults.LineFault.TheVariants as stop
use Rattle.reh_census_file.specs.declared.faults.Keyword.TheVariants as word
use Rattle.reh_census_file.specs.Drafts.{Draft, no_lines, other_line, step}
use Rattle.reh_census_file.specs.Reading.{◌>>=◌, words_of, word_at, choice_at, time_at, version_at, lines_at, no_more}
use Rattle.reh_census_file.specs.Values.{NamedCensus, named_by}

-- what a function returned, seen by view, is what reading gives, unless memory ran out
abbrev pub FailsAll : {Y : Type 0} → CensusFault → Result Y CensusFault → Type 0
FailsAll fault.NoMemory read = Unit {0}
FailsAll (fault.Line line what) read = read ≡ Err (fault.Line line what)

abbrev pub GivesAll : {X Y : Type 0} → (X → Y) → Result X CensusFault → Result Y CensusFault → Type 0
GivesAll view (Ok x) read = read ≡ Ok (view x)
GivesAll view (Err f) read = FailsAll f read

-- what was expected on this line
abbrev pub placed : {A : Type 0} → ℕ → Result A Expected → Result A CensusFault
placed line (Ok x) = Ok x
placed line (Err what) = Err (fault.Line line what)

abbrev pub fault_at : ℕ → LineFault → CensusFault
fault_at line stop.NoMemory = fault.NoMemory
fault_at line (stop.At what) = fault.Line line what

-- Lines

abbrev pub is_line_end : ℕ → Bool
is_line_end b = b == 10

-- the parts of a text between LFs: its lines, and what comes after the last LF
abbrev pub parts_of : List ℕ → List (List ℕ)
parts_of text = slice_split is_line_end text

abbrev pub first_of : List (List ℕ) → List ℕ
first_of [] = []
first_of (first ∷ words) = first

-- The lines at the head

unfoldable pub version_line : List (List ℕ) → Result (Unit {0}) Expected
version_line words = do
  behind ← word_at word.Census words
  version_at behind

unfoldable pub strict_line : List (List ℕ) → Result Bool Expected
strict_line words = do
  behind ← word_at word.Strict words
  strict ← choice_at (codes "yes") (codes "no") expected.YesOrNo behind
  done ← no_more strict.1
  Ok strict.0

unfoldable pub taken_line : List (List ℕ) → Result (Option (List ℕ)) Expected
taken_line words = do
  behind ← word_at word.Taken words
  taken ← time_at behind
  done ← no_more taken.1
  Ok taken.0

-- the first of these parts as a line, which an LF ends, so that a part comes after it
unfoldable pub line_by : {A : Type 0} → (List (List ℕ) → Result A Expected) → ℕ → List (List ℕ) → Result (A × List (List ℕ)) CensusFault
line_by read line [] = Err (fault.Line line expected.MoreLines)
line_by read line (part ∷ parts) =
    if length parts == 0 then Err (fault.Line line expected.MoreLines)
    else (placed line (read (words_of part)) >>= λ x. Ok (x, parts))

-- The lines after the head

-- a last line may come once the ledgers' has, and counts the lines before it
unfoldable pub end_line : ℕ → Draft → List (List ℕ) → Result Draft Expected
end_line lines d words =
    if is_some d.judged then (lines_at lines words >>= λ done. Ok d) else other_line d

-- nothing comes after it
abbrev pub text_end : ℕ → Draft → List (List ℕ) → Result Draft CensusFault
text_end line d [] = Err (fault.Line line expected.NoMoreLines)
text_end line d (part ∷ parts) =
    if (length part == 0) && (length parts == 0) then Ok d else Err (fault.Line line expected.NoMoreLines)

-- the last line after this many, and nothing after it
abbrev pub last_at : ℕ → Draft → List (List ℕ) → List (List ℕ) → Result Draft CensusFault
last_at lines d words parts = placed (lines + 1) (end_line lines d words) >>= λ last. text_end (lines + 2) last parts

-- the lines after this many
unfoldable pub body_at : ℕ → Draft → List (List ℕ) → Result Draft CensusFault
body_at lines d [] = Err (fault.Line (lines + 1) expected.MoreLines)
body_at lines d (part ∷ parts) =
    if length parts == 0 then Err (fault.Line (lines + 1) expected.MoreLines)
    else (if bytes_eq (first_of (words_of part)) (codes "end")
    then last_at lines d (drop 1 (words_of part)) parts
    else (placed (lines + 1) (step d (first_of (words_of part)) (drop 1 (words_of part)))
    >>= λ more. body_at (lines + 1) more parts))

-- the whole text

abbrev pub nothing_judged : Judged
nothing_judged = record { ledgers = 0; assumed = 0; unread = 0; missing = 0 }

abbrev pub census_in : Bool → Option (List ℕ) → Draft → NamedCensus
census_in is_strict taken d =
    named_by d.names d.racks d.bookies (census_by d.entries d.tails d.ensembles (unwrap_or d.judged nothing_judged))
    is_strict taken

unfoldable pub census_at : List (List ℕ) → Result NamedCensus CensusFault
census_at parts = do
  version ← line_by version_line 1 parts
  strict ← line_by strict_line 2 version.1
  taken ← line_by taken_line 3 strict.1
  draft ← body_at 3 no_lines taken.1
  Ok (census_in strict.0 taken.0 draft)

-- the census that a text tells
abbrev pub read : List ℕ → Result NamedCensus CensusFault
read text = census_at (parts_of text)
