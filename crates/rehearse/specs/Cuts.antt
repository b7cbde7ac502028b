-- The picture of ledgers of an inventory.
use Rattle.std.specs.Prelude.{ℕ, List, String, string_bytes, if◌then◌else◌}
use Rattle.std.specs.declared.alloc.Global.{Global}
use Rattle.reh_cut.specs.Chosen.{IsChosen, IsCutOf}
use Rattle.reh_cut.specs.declared.chosen.ChosenLedgers.{ChosenLedgers}
use Rattle.reh_cut.specs.declared.said.Assume.{Assume}
use Rattle.reh_cut.specs.declared.said.Assume.TheVariants.{Nothing, Held, Empty}
use Rattle.reh_words.specs.declared.tasks.CutWords.{CutWords}

-- some lines came, and the ledgers of these ids were chosen of them
pub record IsChoosing (ids : List ℕ) (chosen : ChosenLedgers) : Type 0 where
  pub lines : List (List ℕ)
  pub are_chosen : IsChosen ids lines chosen

-- what the words say that stands for what nobody tells
abbrev pub assume_of : CutWords → Assume
assume_of words = if words.assume_held then Held else (if words.assume_empty then Empty else Nothing)

-- the text is the picture of the ledgers that are asked for, or of the windows of them, of some lines
pub record IsCutFor (words : CutWords) (text : String Global) : Type 0 where
  pub lines : List (List ℕ)
  pub cut : IsCutOf words.ledgers.items lines (assume_of words) words.window (string_bytes text)
