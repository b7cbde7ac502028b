-- What becomes of contents as bits of a bookie's words turn.
use Rattle.std.specs.Prelude.{◌≡◌, ℕ, ◌<◌, List, [], ◌∷◌}
use Rattle.reh_types.specs.declared.changes.Change.{Change}
use Rattle.reh_types.specs.declared.changes.Change.TheVariants.{Word}
use Rattle.reh_model.specs.Contents.{Contents, turned}
use Rattle.reh_held.specs.declared.turns.Turn.{Turn}
use Rattle.reh_held.specs.RowTurns.{ArePlaces}

-- the contents after all turns
abbrev pub turned_all : Contents → ℕ → ℕ → List Turn → Contents
turned_all contents bookie ledger [] = contents
turned_all contents bookie ledger (u ∷ us) = turned_all (turned contents bookie ledger u.number u.bits) bookie ledger us

-- a change of one of so many words of the bookie's row of the ledger
abbrev pub IsWordOf : {M : Type 0} → ℕ → ℕ → ℕ → Change M → Type 0
IsWordOf words bookie ledger (Word b l k bits) = (b ≡ bookie) × (l ≡ ledger) × (k < words)
IsWordOf words bookie ledger c = ⊥

-- in rows of so many words the turns make the one contents the other, with one turn for each word in which they differ
pub record IsTurning (words bookie ledger : ℕ) (before after : Contents) (turns : List Turn) : Type 0 where
  pub places : ArePlaces words turns
  pub makes : turned_all before bookie ledger turns ≡ after
