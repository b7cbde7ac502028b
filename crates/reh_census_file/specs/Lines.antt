-- A text of lines, and a line of words.
use Rattle.std.specs.Prelude.{ℕ, List, [], ◌∷◌, ◌++◌, codes, flat_map}

-- each word after a space
abbrev pub behind_spaces : List (List ℕ) → List ℕ
behind_spaces words = flat_map (λ word. 32 ∷ word) words

-- words with single spaces between them, and the LF that ends their line
abbrev pub line_of : List (List ℕ) → List ℕ
line_of [] = codes "\n"
line_of (word ∷ words) = word ++ (behind_spaces words ++ codes "\n")

abbrev pub lines_of : List (List (List ℕ)) → List ℕ
lines_of lines = flat_map line_of lines
