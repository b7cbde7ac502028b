-- The text so far and the lines of the changes that are left.
use Rattle.std.proofs.Common.{◌≡◌, ◌++◌, drop, string_bytes}
use Rattle.reh_changes.specs.Changes.{all_lines}
use Rattle.reh_changes.proofs.places.push_changes.Given as goal

abbrev pub invariant-loop-change : goal.invariant-loop-change
invariant-loop-change l =
    string_bytes l.text ++ all_lines l.state (drop l.change-index l.changes)
    ≡ string_bytes l.fn.text ++ all_lines l.state l.changes
