-- Ledgers that are weighed one after the other.
use Rattle.std.specs.Prelude.{◌≡◌, ℕ, Bool, List, All, Vec, length, map, slice_get, Some}
use Rattle.std.specs.declared.alloc.Global.{Global}
use Rattle.reh_census.specs.declared.answers.Answer.{Answer}
use Rattle.reh_census.specs.declared.questions.Question.{Question}
use Rattle.reh_census.specs.Bookies.{Bookies, bookies_of, is_flagged}
use Rattle.reh_census.specs.Ledgers.{Ledger}
use Rattle.reh_against.specs.declared.found.Found.{Found}
use Rattle.reh_against.specs.declared.kept.Kept.{Kept}
use Rattle.reh_against.specs.declared.stops.Stop.{Stop}
use Rattle.reh_against.specs.declared.worst.Worst.{Worst}
use Rattle.reh_against.specs.Weights.{weight_of}
use Rattle.reh_against.specs.Worst.{AreWorst, comes_before, found_by, found_from}

abbrev pub found_of : Kept → Found
found_of kept = kept.found

abbrev pub kept_by : ℕ → ℕ → ℕ → Vec Ledger Global → Kept
kept_by weight id place parts = record { found = found_by weight id place; parts = parts }

abbrev pub kept_before : Kept → Kept → Bool
kept_before one other = comes_before one.found other.found

-- it is the ledger that was found at its place
abbrev pub IsAmong : List (List Ledger) → Kept → Type 0
IsAmong ledgers kept = slice_get ledgers kept.found.place ≡ Some kept.parts.items

-- these ledgers were weighed, each by its parts, in this order: the worst of them are kept
pub record Weighs (bookies : Bookies) (question : Question) (stopped : ℕ → Bool) (answer : Answer) (ids : List ℕ)
    (ledgers : List (List Ledger)) (worst : Worst) : Type 0 where
  pub each : length ids ≡ length ledgers
  pub added : worst.added ≡ length ledgers
  pub chosen : AreWorst (found_from (weight_of bookies question stopped answer) 0 ids ledgers) (map found_of worst.kept.items)
  pub among : All (IsAmong ledgers) worst.kept.items

-- by what is asked and was answered
abbrev pub WeighsBy : Stop → List ℕ → List (List Ledger) → Worst → Type 0
WeighsBy stop ids ledgers worst =
    Weighs (bookies_of stop.bookies.now) stop.question.now (is_flagged stop.stopped.now) stop.answer.now ids ledgers worst
