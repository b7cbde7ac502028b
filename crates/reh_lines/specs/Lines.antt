-- The input of a rehearsal: a picture, a line `%`, and a script, which is a list of lines.
use Rattle.std.specs.Prelude.{ℕ, ◌+◌, Bool, not, ◌&&◌, ◌||◌, ◌==◌, nat_lt, nat_le, List, [], ◌∷◌, length, take}
use Rattle.std.specs.Prelude.{Option, Some, None, if◌then◌else◌}
use Rattle.std.specs.List.{list_any, onto_first}
use Rattle.reh_types.specs.declared.limits.TheConstants.{MAX_PICTURE_BYTES, MAX_SCRIPT_BYTES}

-- the lines of a text; each ends at an LF or at the end, and an LF that ends the text begins no further line
abbrev pub lines_of : List ℕ → List (List ℕ)
lines_of [] = []
lines_of (b ∷ bs) = if b == 10 then [] ∷ lines_of bs else onto_first b (lines_of bs)

-- what follows the end of a line, if the text begins with one: its own end, an LF, or either with one CR before it
abbrev pub after_end : List ℕ → Option (List ℕ)
after_end [] = Some []
after_end (b ∷ []) = if b == 10 then Some [] else (if b == 13 then Some [] else None)
after_end (b ∷ c ∷ rest) =
    if b == 10 then Some (c ∷ rest) else (if b == 13 then (if c == 10 then Some rest else None) else None)

-- what follows the line `%`, if the text begins with it
abbrev pub after_percent : List ℕ → Option (List ℕ)
after_percent [] = None
after_percent (b ∷ rest) = if b == 37 then after_end rest else None

-- a picture and a script
pub record Cut : Type 0 where
  pub picture : List ℕ
  pub script : List ℕ

-- the picture ends here, where a script follows
abbrev pub cut_or : Option (List ℕ) → Cut → Cut
cut_or (Some script) other = record { picture = []; script = script }
cut_or None other = other

abbrev pub with_front : ℕ → Cut → Cut
with_front b cut = record cut { picture = b ∷ cut.picture }

-- the picture ends before an LF that the line `%` follows
abbrev pub cut_inside : List ℕ → Cut
cut_inside [] = record { picture = []; script = [] }
cut_inside (b ∷ bs) =
    if b == 10 then cut_or (after_percent bs) (with_front b (cut_inside bs)) else with_front b (cut_inside bs)

-- an input in two: the first line `%` parts them, and without one all is the picture
abbrev pub cut_of : List ℕ → Cut
cut_of input = cut_or (after_percent input) (cut_inside input)

-- whether a script has no more bytes than a script can have
abbrev pub is_script : List ℕ → Bool
is_script script = nat_le (length script) MAX_SCRIPT_BYTES

-- a text up to its last LF
abbrev pub ended : List ℕ → List ℕ
ended [] = []
ended (b ∷ bs) = if list_any (λ c. c == 10) (b ∷ bs) then b ∷ ended bs else []

-- whether an input tells its picture: no read failed after it, or it is too long for a picture that a line `%` ends,
-- or such a line ends in it
abbrev pub is_told : Bool → List ℕ → Bool
is_told failed input =
    not failed || nat_le (MAX_PICTURE_BYTES + 4) (length input)
    || nat_lt (length (cut_of (ended input)).picture) (length (ended input))

-- the lines that are answered: all; of a script that is too long those that end among its first 1,048,576 bytes, and
-- where a read failed those that end before it
unfoldable pub answered_lines : Bool → List ℕ → List (List ℕ)
answered_lines failed script =
    if is_script script && not failed then lines_of script else lines_of (ended (take MAX_SCRIPT_BYTES script))
