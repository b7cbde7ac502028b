use Rattle.std.proofs.Common.{◌≡◌, drop, take}
use Rattle.reh_lines.specs.Lines.{cut_inside}
use Rattle.reh_lines.specs.Heads.{with_fronts}
use Rattle.reh_lines.proofs.inputs.split_input.Given as goal

-- the cut of all is what was passed and the cut of what is left
abbrev pub invariant-loop-i : goal.invariant-loop-i
invariant-loop-i l = cut_inside l.input ≡ with_fronts (take l.i l.input) (cut_inside (drop l.i l.input))
