-- The worst first.
use Rattle.std.specs.Prelude.{◌≡◌, ◌≤◌, ◌⊎◌, ℕ, ◌+◌, Bool, false, ◌&&◌, ◌||◌, ◌==◌, nat_lt, if◌then◌else◌, List, [], ◌∷◌, ◌++◌}
use Rattle.std.specs.Prelude.{All, IsPermutation, length, slice_get, string_bytes, Some}
use Rattle.std.specs.List.Sorted.{IsSortedBy}
use Rattle.reh_census.specs.declared.answers.Answer.{Answer}
use Rattle.reh_census.specs.declared.questions.Keep.{Keep}
use Rattle.reh_census.specs.declared.questions.Question.{Question}
use Rattle.reh_census.specs.Bookies.{Bookies}
use Rattle.reh_census.specs.Ledgers.{Ledger}
use Rattle.reh_answer.specs.declared.against.Against.{Against}
use Rattle.reh_against.specs.declared.found.Found.{Found}
use Rattle.reh_against.specs.Causes.{IsCause}
use Rattle.reh_against.specs.Weights.{entries_by, weight_of}

abbrev pub found_by : ℕ → ℕ → ℕ → Found
found_by weight ledger place = record { weight = record { 0 = weight }; ledger = ledger; place = place }

-- a ledger, if it weighs something
abbrev pub found_if : ℕ → ℕ → ℕ → List Found
found_if weight ledger place = if weight == 0 then [] else found_by weight ledger place ∷ []

-- those that weigh something, where the first of these stands at that place
abbrev pub found_from : {X : Type 0} → (X → ℕ) → ℕ → List ℕ → List X → List Found
found_from weight place [] ledgers = []
found_from weight place (id ∷ ids) [] = []
found_from weight place (id ∷ ids) (g ∷ ledgers) =
    found_if (weight g) id place ++ found_from weight (place + 1) ids ledgers

-- the worse one comes first; of two that are as bad, the one with the lesser id, and then the one that stands first
abbrev pub comes_before : Found → Found → Bool
comes_before a b =
    nat_lt b.weight.0 a.weight.0
    || ((b.weight.0 == a.weight.0) && (nat_lt a.ledger b.ledger || ((a.ledger == b.ledger) && nat_lt a.place b.place)))

-- the ten worst of these, or all of them if there are fewer, worst first: none of the others comes before one of them
pub record AreWorst (found worst : List Found) : Type 0 where
  pub others : List Found
  pub all : IsPermutation found (worst ++ others)
  pub sorted : IsSortedBy comes_before worst
  pub most : length worst ≤ 10
  pub full : (length worst ≡ 10) ⊎ (others ≡ [])
  pub worse : All (λ one. All (λ other. comes_before other one ≡ false) others) worst

-- what is said of a ledger that was found among these, and why; a census counts each as one ledger, or in several parts
pub record IsAgainst (names : List (List ℕ)) (ledgers : List (List Ledger)) (bookies : Bookies) (keep : Keep) (stopped : ℕ → Bool)
    (answer : Answer) (found : Found) (against : Against) : Type 0 where
  pub ledger : against.ledger ≡ found.ledger
  pub entries : against.entries ≡ entries_by answer found.weight.0
  pub found_at : List Ledger
  pub at : slice_get ledgers found.place ≡ Some found_at
  pub cause : IsCause names bookies keep stopped answer found.weight.0 found_at (string_bytes against.cause)

-- the relation holds between the elements of both lists, one by one
abbrev pub Each : {X Y : Type 0} → (X → Y → Type 0) → List X → List Y → Type 0
Each relation [] [] = Unit {0}
Each relation [] (y ∷ ys) = ⊥
Each relation (x ∷ xs) [] = ⊥
Each relation (x ∷ xs) (y ∷ ys) = relation x y × Each relation xs ys

-- of all ledgers of which something speaks against the stop, the ten worst, worst first, and what is said of each
pub record SaysAgainst (names : List (List ℕ)) (ids : List ℕ) (ledgers : List (List Ledger)) (bookies : Bookies) (question : Question)
    (stopped : ℕ → Bool) (answer : Answer) (against : List Against) : Type 0 where
  pub worst : List Found
  pub chosen : AreWorst (found_from (weight_of bookies question stopped answer) 0 ids ledgers) worst
  pub said : Each (IsAgainst names ledgers bookies question.keep stopped answer) worst against

-- a ledger that a census counts as one
abbrev pub alone : Ledger → List Ledger
alone g = g ∷ []
