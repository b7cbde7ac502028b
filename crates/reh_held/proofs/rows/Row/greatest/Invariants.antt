use Rattle.std.proofs.Common.{◌≡◌, ℕ, ◌*◌, ◌≤◌, false, length}
use Rattle.reh_held.specs.Rows.{is_set}
use Rattle.reh_held.proofs.rows.Row.greatest.Given as goal

abbrev pub invariant-loop-end : goal.invariant-loop-end
invariant-loop-end l =
    (l.end ≤ length l.self-inside.words.items) × ((e : ℕ) → 64 * l.end ≤ e → is_set l.self-inside.words.items e ≡ false)

abbrev pub decreases-loop-end : goal.decreases-loop-end
decreases-loop-end l = l.end
