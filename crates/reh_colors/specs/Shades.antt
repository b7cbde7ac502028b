-- Which lines have a colour, and how a text is shown with these.
use Rattle.std.specs.Prelude.{ℕ, ◌==◌, ◌&&◌, ◌||◌, not, nat_eq, Bool, true, false, if◌then◌else◌, List, [], ◌∷◌, ◌++◌, map, Option, None, Some, codes}
use Rattle.std.specs.List.{after_first, join_with_byte, slice_split, starts_with}
use Rattle.std.specs.Str.{bytes_eq}
use Rattle.reh_colors.specs.declared.shades.Shade.{Shade}
use Rattle.reh_colors.specs.declared.shades.Shade.TheVariants.{Red, Green, Yellow}

-- what is answered to a faulty line
abbrev pub is_fault : List ℕ → Bool
is_fault answer =
    bytes_eq answer (codes " too long")
    || (bytes_eq answer (codes " unknown command")
    || (bytes_eq answer (codes " bad words")
    || bytes_eq answer (codes " unknown name")))

-- an answer that refuses: a command, or the line itself
abbrev pub is_refused : List ℕ → Bool
is_refused answer = starts_with nat_eq answer (codes " refused ") || is_fault answer

-- the colour of a verdict
abbrev pub verdict_shade : List ℕ → Option Shade
verdict_shade line =
    if starts_with nat_eq line (codes "ok-to-stop: yes") then Some Green
    else (if starts_with nat_eq line (codes "ok-to-stop: no") then Some Red
    else (if starts_with nat_eq line (codes "ok-to-stop: unknown") then Some Yellow
    else None))

-- the colour of a line: of an answer that refuses, which stands after its first colon, or of a verdict
abbrev pub shade_of : List ℕ → Option Shade
shade_of line =
    if starts_with nat_eq line (codes "line ") && is_refused (after_first (λ b. b == 58) line) then Some Red
    else verdict_shade line

-- the codes: each begins with an escape and ends with an m
abbrev pub is_escape : ℕ → Bool
is_escape b = b == 27

abbrev pub code_of : Shade → List ℕ
code_of Red = 27 ∷ codes "[31m"
code_of Green = 27 ∷ codes "[32m"
code_of Yellow = 27 ∷ codes "[33m"

abbrev pub end_code : List ℕ
end_code = 27 ∷ codes "[0m"

-- a text without codes, from within a code or from outside
abbrev pub outside_codes : Bool → List ℕ → List ℕ
outside_codes within [] = []
outside_codes true (b ∷ bs) = outside_codes (not (b == 109)) bs
outside_codes false (b ∷ bs) = if is_escape b then outside_codes true bs else b ∷ outside_codes false bs

abbrev pub without_codes : List ℕ → List ℕ
without_codes bs = outside_codes false bs

-- a line between the codes of its colour, if it has one
abbrev pub shown_in : Option Shade → List ℕ → List ℕ
shown_in None line = line
shown_in (Some shade) line = code_of shade ++ (line ++ end_code)

abbrev pub shown : List ℕ → List ℕ
shown line = shown_in (shade_of line) line

-- the lines of a text, between its LFs, and the text with each line shown so
abbrev pub lines : List ℕ → List (List ℕ)
lines text = slice_split (λ b. b == 10) text

abbrev pub colored : List ℕ → List ℕ
colored text = join_with_byte 10 (map shown (lines text))
