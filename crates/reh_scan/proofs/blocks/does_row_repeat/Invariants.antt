-- The words that are passed are those before them.
use Rattle.std.proofs.Common.{◌≡◌, ◌-◌, ◌*◌, ◌<◌, ◌≤◌, ℕ}
use Rattle.reh_held.specs.Rows.{is_set}
use Rattle.reh_scan.proofs.blocks.does_row_repeat.Given as goal

abbrev pub invariant-loop-number : goal.invariant-loop-number
invariant-loop-number l = record {
  from : l.place ≤ l.number;
  same : (entry : ℕ) → 64 * l.place ≤ entry → entry < 64 * l.number
      → is_set l.row entry ≡ is_set l.row (entry - 64 * l.count);
}
