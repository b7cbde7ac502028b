-- Runs of a survey, one after the other.
use Rattle.std.proofs.Common.{◌≡◌, ◌∙◌, ◌+◌, ◌++◌, ℕ, List, [], ◌∷◌, ap, drop, refl, sym, take}
use Rattle.std.proofs.lemmas.List.{drop-drop, take-append-drop}
use Rattle.reh_types.specs.declared.surveys.SurveyLine.{SurveyLine}
use Rattle.reh_model.specs.Cluster.{Cluster}
use Rattle.reh_model.specs.Survey.{survey}
use Rattle.reh_crew.specs.Shares.{lines_to}

-- a worker's run, and the lines after it
pub joined : (s own : Cluster) (own_first own_count first count : ℕ) (lines mine others : List SurveyLine)
    → lines ≡ mine ++ others → mine ≡ take own_count (drop own_first (survey own))
    → (own ≡ s) × (own_first ≡ first) × (own_count ≡ count) → others ≡ drop (first + count) (survey s)
    → lines ≡ drop first (survey s)
joined s own own_first own_count first count lines mine others both run promised rest =
    both
    ∙ (λ j. run j ++ rest j)
    ∙ (λ j. take (promised.2 j) (drop (promised.1 j) (survey (promised.0 j))) ++ drop (first + count) (survey s))
    ∙ ap (λ ls. take count (drop first (survey s)) ++ ls) (sym (drop-drop count first (survey s)))
    ∙ take-append-drop count (drop first (survey s))

-- no line comes to nothing
pub lines_to-none : (costs : List ℕ) → lines_to 0 costs ≡ 0
lines_to-none [] = refl
lines_to-none (cost ∷ costs) = refl
