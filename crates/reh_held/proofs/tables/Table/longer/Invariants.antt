use Rattle.std.proofs.Common.{◌≡◌, ℕ, ◌<◌, [], length, slice_index_or}
use Rattle.reh_held.specs.Rows.{is_set}
use Rattle.reh_held.proofs.tables.Table.longer.Given as goal

abbrev pub invariant-loop-row : goal.invariant-loop-row
invariant-loop-row l =
    (length l.rows.items ≡ l.row-index)
    × ((b : ℕ) → b < l.row-index → length (slice_index_or l.rows.items b []) ≡ l.width)
    × ((b e : ℕ) → b < l.row-index
    → is_set (slice_index_or l.rows.items b []) e ≡ is_set (slice_index_or l.row-items b []) e)
