-- What is printed of one place of a list of fragments, or of an ensemble.
use Rattle.std.specs.Prelude.{ℕ, ◌==◌, if◌then◌else◌, List, [], ◌∷◌, ◌++◌, Option, None, Some, codes}
use Rattle.std.specs.Fmt.{decimal}
use Rattle.reh_model.specs.Metadata.{Fragment}
use Rattle.reh_commands.specs.Texts.{name_of}
use Rattle.reh_changes.specs.Changes.{change_line, fragment_name, fragment_words, member_lines}

-- the line of the i-th member of an ensemble, if it changed
abbrev pub member_line : List (List ℕ) → ℕ → ℕ → ℕ → ℕ → ℕ → List ℕ
member_line names id f i was now =
    if was == now then []
    else change_line (fragment_name id f ++ codes "index" ∷ decimal i ∷ []) (name_of names was ∷ []) (name_of names now ∷ [])

-- a fragment's words, or `-` where there is none
abbrev pub whole_words : List (List ℕ) → Option Fragment → List (List ℕ)
whole_words names None = codes "-" ∷ []
whole_words names (Some fragment) = fragment_words names fragment

-- the line of a fragment that came or went
abbrev pub whole_line : List (List ℕ) → ℕ → ℕ → Option Fragment → Option Fragment → List ℕ
whole_line names id f was now = change_line (fragment_name id f) (whole_words names was) (whole_words names now)

-- the lines of the f-th fragment, where there was one or is one
abbrev pub lines_at : List (List ℕ) → ℕ → ℕ → Option Fragment → Option Fragment → List ℕ
lines_at names id f None None = []
lines_at names id f (Some was) None = change_line (fragment_name id f) (fragment_words names was) (codes "-" ∷ [])
lines_at names id f None (Some now) = change_line (fragment_name id f) (codes "-" ∷ []) (fragment_words names now)
lines_at names id f (Some was) (Some now) = member_lines names id f 0 was.ensemble now.ensemble
