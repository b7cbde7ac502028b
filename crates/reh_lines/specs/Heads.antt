-- The head of an input, up to the end of its line `%`.
use Rattle.std.specs.Prelude.{◌≡◌, ◌⊎◌, ℕ, ◌+◌, ◌==◌, ◌<◌, ◌≤◌, ◌&&◌, Bool, true, false, List, [], ◌∷◌, ◌++◌, length}
use Rattle.std.specs.Prelude.{take, drop, Option}
use Rattle.std.specs.Io.KnownBytes.{Consumes, IsAtEnd}
use Rattle.reh_types.specs.declared.limits.TheConstants.{MAX_PICTURE_BYTES}
use Rattle.reh_lines.specs.Lines.{Cut, cut_of, cut_inside, ended}
use Rattle.reh_lines.specs.Readings.{IsQuiet}
use Rattle.reh_lines.specs.declared.heads.Head.{Head}
use Rattle.reh_lines.specs.declared.heads.Head.TheVariants.{Ended, Whole, TooLong, Failed}

-- the line `%`, which may end in a CR
abbrev pub is_percent : List ℕ → Bool
is_percent [] = false
is_percent (b ∷ []) = b == 37
is_percent (b ∷ c ∷ []) = (b == 37) && (c == 13)
is_percent (b ∷ c ∷ d ∷ rest) = false

-- a cut with more in front of its picture
abbrev pub with_fronts : List ℕ → Cut → Cut
with_fronts bytes cut = record cut { picture = bytes ++ cut.picture }

-- These bytes end with the line `%` and its LF, and have this picture: whatever follows is the script.
abbrev pub IsHead : List ℕ → List ℕ → Type 0
IsHead bytes picture =
    (ended bytes ≡ bytes)
    × ((script : List ℕ) → cut_of (bytes ++ script) ≡ record { picture = picture; script = script })

-- These lines are of the picture, whatever follows: none of them is the line `%`, and the last one's LF may be the one
-- before it.
abbrev pub IsPicture : List ℕ → Type 0
IsPicture lines =
    (lines ≡ []) ⊎ ((front : List ℕ) × (lines ≡ front ++ 10 ∷ [])
    × ((more : List ℕ) → cut_of (front ++ 10 ∷ more) ≡ with_fronts front (cut_inside (10 ∷ more))))

-- An input of which no line is the line `%`, as far as it was read.
abbrev pub IsUntold : List ℕ → Type 0
IsUntold input = (line : ℕ) × (line ≤ length input) × IsPicture (take line input) × IsQuiet (drop line input)

-- What was given before the last read told nothing: the line `%` had not ended, and more could matter.
abbrev pub IsUntoldUntil : Option (List ℕ) → Option (List ℕ) → Type 0
IsUntoldUntil left_old left_before =
    (earlier : List ℕ) × Consumes left_old left_before earlier × IsUntold earlier
    × (length earlier < MAX_PICTURE_BYTES + 4)

-- What came of reading an input up to its script.
abbrev pub ReadsHead : Head → List ℕ → Option (List ℕ) → Option (List ℕ) → Bool → Type 0
ReadsHead (Ended percent) input left_old left_new failed =
    Consumes left_old left_new input × (failed ≡ false)
    × IsHead (take percent.script input) (take percent.picture input)
    × (percent.picture < percent.script) × (percent.script ≤ length input)
    × (length input ≤ percent.script + 8192)
ReadsHead Whole input left_old left_new failed =
    Consumes left_old left_new input × (failed ≡ false) × IsUntold input × IsAtEnd left_new
ReadsHead TooLong input left_old left_new failed =
    Consumes left_old left_new input × (failed ≡ false) × IsUntold input × (MAX_PICTURE_BYTES + 4 ≤ length input)
ReadsHead Failed input left_old left_new failed =
    Consumes left_old left_new input × (failed ≡ true) × IsUntold input × (length input < MAX_PICTURE_BYTES + 4)

-- how many reads gave no byte
abbrev pub last_read : Head → ℕ
last_read (Ended percent) = 0
last_read Whole = 1
last_read TooLong = 0
last_read Failed = 1
