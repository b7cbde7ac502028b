-- The lines so far were added.
use Rattle.std.proofs.Common.{◌≡◌, ◌++◌, take, string_bytes}
use Rattle.reh_inventory_plan.specs.Texts.{lines_of_left}
use Rattle.reh_inventory_plan.proofs.texts.push_each_left.Given as goal

abbrev pub invariant-loop-one : goal.invariant-loop-one
invariant-loop-one l =
    string_bytes l.text ≡ string_bytes l.fn.text ++ lines_of_left (take l.one-index l.left)
