-- Words of one row that follow one another in a record.
use Rattle.std.specs.Prelude.{ℕ, Bool, false, ◌==◌, ◌&&◌, Option, Some, None}
use Rattle.reh_types.specs.declared.changes.Change.TheVariants.{Word}
use Rattle.reh_model.specs.Places.{Change}

-- the bookie and the ledger of whose row the change is a word, if it is one
abbrev pub row_of : Change → Option (ℕ × ℕ)
row_of (Word b l k bits) = Some (b, l)
row_of c = None

abbrev pub is_row : ℕ → ℕ → Option (ℕ × ℕ) → Bool
is_row bookie ledger (Some row) = row.0 == bookie && row.1 == ledger
is_row bookie ledger None = false

-- whether it is a word of that bookie's row of that ledger
abbrev pub is_word_of : ℕ → ℕ → Change → Bool
is_word_of bookie ledger c = is_row bookie ledger (row_of c)
