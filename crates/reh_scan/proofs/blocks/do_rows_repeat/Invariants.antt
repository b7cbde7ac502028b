-- The rows that are passed have the same.
use Rattle.std.proofs.Common.{◌≡◌, ◌+◌, ◌-◌, ◌*◌, ◌<◌, ◌≤◌, ℕ}
use Rattle.reh_scan.specs.Sources.{is_set_at}
use Rattle.reh_scan.proofs.blocks.do_rows_repeat.Given as goal

abbrev pub invariant-loop-index : goal.invariant-loop-index
invariant-loop-index l =
    (index entry : ℕ) → index < l.index → 64 * l.place ≤ entry → entry < 64 * (l.place + l.count)
    → is_set_at l.rows entry index ≡ is_set_at l.rows (entry - 64 * l.count) index
