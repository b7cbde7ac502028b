-- What a reader gives.
use Rattle.std.specs.Prelude.{◌≡◌, ℕ, ◌==◌, ◌<◌, ◌≤◌, Bool, true, false, List, [], ◌∷◌, ◌++◌, length, take, Option, IfSome}
use Rattle.std.specs.List.{list_any}
use Rattle.std.specs.Io.KnownBytes.{Consumes, IsAtEnd}
use Rattle.reh_types.specs.declared.limits.TheConstants.{MAX_SCRIPT_BYTES}
use Rattle.reh_lines.specs.Lines.{ended}
use Rattle.reh_lines.specs.declared.readings.Progress.{Progress}
use Rattle.reh_lines.specs.declared.readings.Progress.TheVariants.{Lines, End, Failed, TooLong}

-- The text that a reader gives is all that was still to come or, where a read failed, what came before it.
abbrev pub Gives : Option (List ℕ) → Option (List ℕ) → Bool → List ℕ → Type 0
Gives old new true text = Consumes old new text
Gives old new false text = IfSome old (λ all. text ≡ all)

-- What was read is all, or so many first bytes of it that they are enough.
abbrev pub ReadsEnough : ℕ → List ℕ → List ℕ → Type 0
ReadsEnough enough bytes all = (rest : List ℕ) × (all ≡ bytes ++ rest) × (length bytes < enough → rest ≡ [])

-- What was read is enough or, where a read failed, what came before it.
abbrev pub Reads : ℕ → Bool → List ℕ → Option (List ℕ) → Option (List ℕ) → Type 0
Reads enough true bytes old new = Consumes old new bytes
Reads enough false bytes old new = IfSome old (λ all. ReadsEnough enough bytes all)

-- no line ends in these bytes
abbrev pub IsQuiet : List ℕ → Type 0
IsQuiet bytes = list_any (λ c. c == 10) bytes ≡ false

-- what was given before the last read ends no line
abbrev pub IsQuietUntil : Option (List ℕ) → Option (List ℕ) → Type 0
IsQuietUntil left_old left_before = (bytes : List ℕ) × IsQuiet bytes × Consumes left_old left_before bytes

-- What came of reading on in a script, of which old was read before, and new is read now: more lines are complete, up to
-- a place, or none is, and no more can come.
abbrev pub ReadsOn : Progress → List ℕ → List ℕ → Option (List ℕ) → Option (List ℕ) → Bool → Type 0
ReadsOn (Lines end) old new left_old left_new failed =
    (bytes : List ℕ) × (new ≡ old ++ bytes) × Consumes left_old left_new bytes × (take end new ≡ ended new)
    × (length old < end) × (end ≤ length new) × (failed ≡ false)
ReadsOn End old new left_old left_new failed =
    (bytes : List ℕ) × (new ≡ old ++ bytes) × Consumes left_old left_new bytes × IsQuiet bytes
    × IsAtEnd left_new × (failed ≡ false)
ReadsOn Failed old new left_old left_new failed =
    (bytes : List ℕ) × (new ≡ old ++ bytes) × Consumes left_old left_new bytes × IsQuiet bytes
    × (failed ≡ true)
ReadsOn TooLong old new left_old left_new failed =
    (bytes : List ℕ) × (byte : ℕ) × (new ≡ old ++ bytes) × Consumes left_old left_new (bytes ++ byte ∷ [])
    × IsQuiet bytes × (length new ≡ MAX_SCRIPT_BYTES) × (failed ≡ false)

-- how many reads gave no byte for the script
abbrev pub reads_past : Progress → ℕ
reads_past (Lines end) = 0
reads_past End = 1
reads_past Failed = 1
reads_past TooLong = 1

-- what one more read gives, after the longest script that there can be
abbrev pub ReadsPast : Progress → Option (List ℕ) → Option (List ℕ) → Bool → Type 0
ReadsPast (Lines end) left_old left_new failed = ⊥
ReadsPast End left_old left_new failed = Consumes left_old left_new [] × IsAtEnd left_new × (failed ≡ false)
ReadsPast Failed left_old left_new failed = Consumes left_old left_new [] × (failed ≡ true)
ReadsPast TooLong left_old left_new failed =
    (byte : ℕ) × Consumes left_old left_new (byte ∷ []) × (failed ≡ false)
