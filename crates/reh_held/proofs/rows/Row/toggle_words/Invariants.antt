-- The words so far are turned, and the others turn the rest.
use Rattle.std.proofs.Common.{◌≡◌, ℕ, length, map, drop}
use Rattle.reh_model.specs.Contents.{one_of}
use Rattle.reh_held.specs.Rows.{is_set}
use Rattle.reh_held.specs.RowTurns.{turn_of, is_turned}
use Rattle.reh_held.proofs.rows.Row.toggle_words.Given as goal

abbrev pub invariant-loop-change : goal.invariant-loop-change
invariant-loop-change g l =
    (length l.self ≡ length l.fn.self)
    × ((e : ℕ) → one_of (is_set l.self e) (is_turned (map turn_of (drop l.change-index l.words)) e)
    ≡ one_of (is_set l.fn.self e) (is_turned (map turn_of l.words) e))
