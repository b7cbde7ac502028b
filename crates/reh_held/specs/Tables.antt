-- A table: what all bookies hold of one ledger, a row of words for each.
use Rattle.std.specs.Prelude.{◌≡◌, ℕ, ◌<◌, ◌≤◌, List, [], length, slice_index_or}
use Rattle.reh_held.specs.declared.rows.TheConstants.{MAX_WIDTH}

-- a table as callers see it: how many words each row has, and the rows, by the bookies' numbers
pub record TableValue : Type 0 where
  pub width : ℕ
  pub rows : List (List ℕ)

-- the bookie's row; one with no words past the bookies
abbrev pub row_at : TableValue → ℕ → List ℕ
row_at table bookie = slice_index_or table.rows bookie []

-- a table with a row for each of so many bookies, all of one width, which is no wider than entry ids need
pub record IsTable (bookies : ℕ) (table : TableValue) : Type 0 where
  pub size : length table.rows ≡ bookies
  pub widths : (bookie : ℕ) → bookie < bookies → length (row_at table bookie) ≡ table.width
  pub small : table.width ≤ MAX_WIDTH
