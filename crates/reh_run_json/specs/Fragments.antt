-- The changes of one place of a list of fragments, or of an ensemble.
use Rattle.std.specs.Prelude.{ℕ, ◌==◌, if◌then◌else◌, List, [], ◌∷◌, Option, None, Some, codes}
use Rattle.json.specs.Json.{Json, member}
use Rattle.reh_model.specs.Metadata.{Fragment}
use Rattle.reh_answer.specs.Objects.{number_json}
use Rattle.reh_run_json.specs.Values.{name_json, or_null}
use Rattle.reh_run_json.specs.Changes.{changed, fragment_json, member_changes, of_fragment}

-- the i-th member of an ensemble was another one
abbrev pub member_change : List (List ℕ) → ℕ → ℕ → ℕ → ℕ → ℕ → Json
member_change names id f i was now =
    changed (codes "member") (λ rest. of_fragment id f (member (codes "index") (number_json i) rest))
    (name_json names was) (name_json names now)

abbrev pub member_change_at : List (List ℕ) → ℕ → ℕ → ℕ → ℕ → ℕ → List Json
member_change_at names id f i was now = if was == now then [] else member_change names id f i was now ∷ []

-- a fragment was added or removed
abbrev pub whole_change : List (List ℕ) → ℕ → ℕ → Option Fragment → Option Fragment → Json
whole_change names id f was now =
    changed (codes "fragment") (of_fragment id f) (or_null (fragment_json names) was) (or_null (fragment_json names) now)

-- the changes of the f-th fragment, where there was one or is one
abbrev pub changes_at : List (List ℕ) → ℕ → ℕ → Option Fragment → Option Fragment → List Json
changes_at names id f None None = []
changes_at names id f (Some was) None = whole_change names id f (Some was) None ∷ []
changes_at names id f None (Some now) = whole_change names id f None (Some now) ∷ []
changes_at names id f (Some was) (Some now) = member_changes names id f 0 was.ensemble now.ensemble
