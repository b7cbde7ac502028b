-- Blocks of entries that find the same.
use Rattle.std.specs.Prelude.{◌≡◌, ℕ, ◌+◌, ◌-◌, ◌*◌, ◌/◌, ◌<◌, ◌≤◌, List}
use Rattle.std.specs.Borrow.{Bor}
use Rattle.reh_types.specs.declared.limits.TheConstants.{MAX_ENSEMBLE_SIZE}
use Rattle.reh_scan.specs.Sources.{is_set_at}

-- how many words a block has: as often as many as the ensemble has members
abbrev pub words_of_block : ℕ → ℕ
words_of_block size = (MAX_ENSEMBLE_SIZE / size) * size

-- the rows, which begin with the word of that number, have the same in two whole blocks that follow one another
pub record IsRepeated (rows : List (Bor (List ℕ))) (size number first middle stop : ℕ) : Type 0 where
  pub before : middle ≡ first + 64 * words_of_block size
  pub here : stop ≡ middle + 64 * words_of_block size
  pub same : (index entry : ℕ) → index < size → first ≤ entry → entry < middle
      → is_set_at rows (entry + 64 * words_of_block size - 64 * number) index ≡ is_set_at rows (entry - 64 * number) index
