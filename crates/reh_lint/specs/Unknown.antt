-- The word of a faulty line that names nothing.
use Rattle.std.specs.Prelude.{ℕ, ◌&&◌, not, Bool, true, false, find, is_some, List, [], ◌∷◌, Option, None, Some, option_map}
use Rattle.std.specs.List.{zip}
use Rattle.std.specs.Option.{option_and_then}
use Rattle.std.specs.Str.Lines.{strip_carriage_return}
use Rattle.reh_model.specs.Cluster.{bookie_named}
use Rattle.reh_commands.specs.declared.words.Kind.{Kind}
use Rattle.reh_commands.specs.declared.words.Kind.TheVariants.{Name, Number}
use Rattle.reh_commands.specs.declared.words.Role.{Role}
use Rattle.reh_commands.specs.Script.{form_of, kind_of, verb_of, words_of}

-- the words of a line, without the one CR at its end
abbrev pub line_words : List ℕ → List (List ℕ)
line_words line = words_of (strip_carriage_return line)

abbrev pub is_name : Kind → Bool
is_name Name = true
is_name Number = false

-- whether a word has to be a bookie's name, by its role, and isn't
abbrev pub is_unknown : List (List ℕ) → List ℕ × Role → Bool
is_unknown names pair = is_name (kind_of pair.1) && not (is_some (bookie_named names pair.0))

-- the first such word
abbrev pub first_unknown : List (List ℕ) → List (List ℕ) → List Role → Option (List ℕ)
first_unknown names words roles = option_map (λ pair. pair.0) (find (is_unknown names) (zip words roles))

-- of a line's words, where the first is no command, that one
abbrev pub unknown_command : List (List ℕ) → Option (List ℕ)
unknown_command [] = None
unknown_command (first ∷ words) = Some first

-- and where it is one, the first after it that has to be a bookie's name and isn't
abbrev pub unknown_name : List (List ℕ) → List (List ℕ) → Option (List ℕ)
unknown_name names [] = None
unknown_name names (first ∷ words) =
    option_and_then (λ verb. first_unknown names words (form_of verb).roles) (verb_of first)
