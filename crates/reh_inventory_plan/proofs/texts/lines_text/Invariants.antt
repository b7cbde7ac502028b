-- The lines so far.
use Rattle.std.proofs.Common.{◌≡◌, take, string_bytes}
use Rattle.std.specs.List.{flat_map}
use Rattle.reh_inventory_plan.specs.Texts.{left_lines}
use Rattle.reh_inventory_plan.proofs.texts.lines_text.Given as goal

abbrev pub invariant-loop-outcome : goal.invariant-loop-outcome
invariant-loop-outcome l =
    string_bytes l.text ≡ flat_map left_lines (take l.outcome-index l.outcomes)
