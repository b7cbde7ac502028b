use Rattle.std.proofs.Common.{◌≡◌, ℕ, ◌<◌, false, [], length, slice_index_or}
use Rattle.reh_held.specs.Rows.{is_set}
use Rattle.reh_held.proofs.tables.Table.new.Given as goal

abbrev pub invariant-loop : goal.invariant-loop
invariant-loop l =
    (length l.rows.items ≡ l.counter) ×
    ((b : ℕ) → b < length l.rows.items → length (slice_index_or l.rows.items b []) ≡ l.width)
    × ((b e : ℕ) → is_set (slice_index_or l.rows.items b []) e ≡ false)
