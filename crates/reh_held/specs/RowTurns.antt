-- Lists of words of one row with bits to turn.
use Rattle.std.specs.Prelude.{◌≡◌, ◌≢◌, ℕ, ◌+◌, ◌^◌, ◌<◌, ◌≤◌, Bool, false, List, [], ◌∷◌, length}
use Rattle.std.specs.Prelude.{All}
use Rattle.reh_types.specs.declared.changes.Change.{Change}
use Rattle.reh_types.specs.declared.changes.Change.TheVariants.{Word}
use Rattle.reh_model.specs.Contents.{is_in_word, one_of}
use Rattle.reh_held.specs.declared.turns.Turn.{Turn}
use Rattle.reh_held.specs.Rows.{is_set}

-- whether the entry turns, by some of the turns and not by two
abbrev pub is_turned : List Turn → ℕ → Bool
is_turned [] entry = false
is_turned (u ∷ us) entry = one_of (is_in_word u.number u.bits entry) (is_turned us entry)

-- a change of one of so many words
abbrev pub IsWordWithin : {M : Type 0} → ℕ → Change M → Type 0
IsWordWithin words (Word b l k bits) = k < words
IsWordWithin words c = ⊥

-- what turns by a change of a word; no other change turns bits
abbrev pub turn_of : {M : Type 0} → Change M → Turn
turn_of (Word b l k bits) = record { number = k; bits = bits }
turn_of c = record { number = 0; bits = 0 }

-- the numbers rise, from k on
abbrev pub AreRising : ℕ → List Turn → Type 0
AreRising k [] = Unit {0}
AreRising k (u ∷ us) = (k ≤ u.number) × AreRising (u.number + 1) us

-- the turns are of words of 64 bits that there are, in order and each once, and something turns in each
pub record ArePlaces (words : ℕ) (turns : List Turn) : Type 0 where
  pub there : All (λ u. u.number < words) turns
  pub rising : AreRising 0 turns
  pub some : All (λ u. (u.bits ≢ 0) × (u.bits < 2 ^ 64)) turns

-- the turns of places of the row that leave in it what passes the test
pub record IsRowTurning (words : List ℕ) (after : ℕ → Bool) (turns : List Turn) : Type 0 where
  pub places : ArePlaces (length words) turns
  pub makes : (entry : ℕ) → one_of (is_set words entry) (is_turned turns entry) ≡ after entry
