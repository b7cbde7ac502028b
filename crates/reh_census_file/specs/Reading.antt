-- Reading the words of a line from left to right: a value and the words after it, or the first word that isn't what is
-- expected.
use Rattle.std.specs.Prelude.{◌≡◌, ℕ, zero, suc, ◌*◌, ◌+◌, ◌-◌, ◌^◌, ◌==◌, ◌&&◌, nat_le, Bool, true, false, if◌then◌else◌}
use Rattle.std.specs.Prelude.{List, [], ◌∷◌, position, Option, None, Some, Result, Ok, Err, codes}
use Rattle.std.specs.Fmt.{decimal}
use Rattle.std.specs.List.{slice_split}
use Rattle.std.specs.Str.{bytes_eq}
use Rattle.reh_census_file.specs.declared.faults.Expected.{Expected}
use Rattle.reh_census_file.specs.declared.faults.Expected.TheVariants as expected
use Rattle.reh_census_file.specs.declared.faults.LineFault.{LineFault}
use Rattle.reh_census_file.specs.declared.faults.LineFault.TheVariants as stop
use Rattle.reh_census_file.specs.declared.faults.Keyword.{Keyword}
use Rattle.reh_census_file.specs.Canonical.{is_name}
use Rattle.reh_census_file.specs.Faults.{word_text}

infixl 10 ◌>>=◌
abbrev pub ◌>>=◌ : {A B E : Type 0} → Result A E → (A → Result B E) → Result B E
(Ok x) >>= f = f x
(Err e) >>= f = Err e

-- what a function returned, seen by view, is what reading gives, unless memory ran out
abbrev pub Fails : {Y : Type 0} → LineFault → Result Y Expected → Type 0
Fails stop.NoMemory read = Unit {0}
Fails (stop.At what) read = read ≡ Err what

abbrev pub Gives : {X Y : Type 0} → (X → Y) → Result X LineFault → Result Y Expected → Type 0
Gives view (Ok x) read = read ≡ Ok (view x)
Gives view (Err e) read = Fails e read

-- Words

abbrev pub is_space : ℕ → Bool
is_space b = b == 32

-- the words of a line: single spaces part them
abbrev pub words_of : List ℕ → List (List ℕ)
words_of line = slice_split is_space line

-- the words after one, from the space on that ends it
abbrev pub words_after : List ℕ → List (List ℕ)
words_after [] = []
words_after (b ∷ bs) = words_of bs

-- Values

-- the number that digits stand for, going on from another
abbrev pub read_on : ℕ → List ℕ → ℕ
read_on n [] = n
read_on n (c ∷ cs) = read_on (n * 10 + (c - 48)) cs

-- the number of at most 2^63 that is written so
unfoldable pub number_of : List ℕ → Option ℕ
number_of word =
    if bytes_eq word (decimal (read_on 0 word)) && nat_le (read_on 0 word) (2 ^ 63) then Some (read_on 0 word) else None

-- this very word
unfoldable pub word_at : Keyword → List (List ℕ) → Result (List (List ℕ)) Expected
word_at wanted [] = Err (expected.Keyword wanted)
word_at wanted (word ∷ words) = if bytes_eq word (word_text wanted) then Ok words else Err (expected.Keyword wanted)

-- whether the word comes next, and the words after it
unfoldable pub flag_at : Keyword → List (List ℕ) → Bool × List (List ℕ)
flag_at wanted [] = (false, [])
flag_at wanted (word ∷ words) = if bytes_eq word (word_text wanted) then (true, words) else (false, word ∷ words)

-- one of two words, and whether it is the first
unfoldable pub choice_at : List ℕ → List ℕ → Expected → List (List ℕ) → Result (Bool × List (List ℕ)) Expected
choice_at one other what [] = Err what
choice_at one other what (word ∷ words) =
    if bytes_eq word one then Ok (true, words) else (if bytes_eq word other then Ok (false, words) else Err what)

abbrev pub number_or : Option ℕ → List (List ℕ) → Result (ℕ × List (List ℕ)) Expected
number_or None words = Err expected.Number
number_or (Some n) words = Ok (n, words)

unfoldable pub number_at : List (List ℕ) → Result (ℕ × List (List ℕ)) Expected
number_at [] = Err expected.Number
number_at (word ∷ words) = number_or (number_of word) words

abbrev pub count_or : Option ℕ → List (List ℕ) → Result (ℕ × List (List ℕ)) Expected
count_or None words = Err expected.Count
count_or (Some zero) words = Err expected.Count
count_or (Some (suc n)) words = Ok (suc n, words)

-- a number that isn't 0
unfoldable pub count_at : List (List ℕ) → Result (ℕ × List (List ℕ)) Expected
count_at [] = Err expected.Count
count_at (word ∷ words) = count_or (number_of word) words

-- a number after its word
unfoldable pub number_behind : Keyword → List (List ℕ) → Result (ℕ × List (List ℕ)) Expected
number_behind wanted words = do
  behind ← word_at wanted words
  number_at behind

-- a name
unfoldable pub name_at : List (List ℕ) → Result (List ℕ × List (List ℕ)) Expected
name_at [] = Err expected.Name
name_at (word ∷ words) = if is_name word then Ok (word, words) else Err expected.Name

abbrev pub bookie_or : Option ℕ → List (List ℕ) → Result (ℕ × List (List ℕ)) Expected
bookie_or None words = Err expected.KnownBookie
bookie_or (Some b) words = Ok (b, words)

-- the number of the bookie of this name
unfoldable pub bookie_at : List (List ℕ) → List (List ℕ) → Result (ℕ × List (List ℕ)) Expected
bookie_at names [] = Err expected.KnownBookie
bookie_at names (word ∷ words) = bookie_or (position (bytes_eq word) names) words

-- so many bookies
unfoldable pub bookies_at : List (List ℕ) → ℕ → List (List ℕ) → Result (List ℕ × List (List ℕ)) Expected
bookies_at names zero words = Ok ([], words)
bookies_at names (suc n) words = do
  first ← bookie_at names words
  others ← bookies_at names n first.1
  Ok (first.0 ∷ others.0, others.1)

-- bookies after a word and their number
unfoldable pub bookies_behind : List (List ℕ) → Keyword → List (List ℕ) → Result (List ℕ × List (List ℕ)) Expected
bookies_behind names wanted words = do
  count ← number_behind wanted words
  bookies_at names count.0 count.1

-- no further word
abbrev pub no_more : List (List ℕ) → Result (Unit {0}) Expected
no_more [] = Ok tt
no_more (word ∷ words) = Err expected.LineEnd

-- a time, or that there is none
unfoldable pub time_at : List (List ℕ) → Result (Option (List ℕ) × List (List ℕ)) Expected
time_at [] = Err expected.Time
time_at (word ∷ words) =
    if bytes_eq word (codes "-") then Ok (None, words)
    else (if is_name word then Ok (Some word, words) else Err expected.Time)

-- the version, and nothing after it
unfoldable pub version_at : List (List ℕ) → Result (Unit {0}) Expected
version_at [] = Err expected.Version
version_at (word ∷ words) = if bytes_eq word (codes "1") then no_more words else Err expected.Version

-- how many lines stand before the last one, and nothing after it
unfoldable pub lines_at : ℕ → List (List ℕ) → Result (Unit {0}) Expected
lines_at lines [] = Err (expected.End lines)
lines_at lines (word ∷ words) =
    if bytes_eq (decimal lines) word then no_more words else Err (expected.End lines)
