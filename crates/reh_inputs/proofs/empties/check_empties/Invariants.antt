-- None of the holdings that are passed.
use Rattle.std.proofs.Common.{◌≡◌, All, false, take}
use Rattle.reh_inputs.specs.Empties.{holds_though_empty}
use Rattle.reh_inputs.proofs.empties.check_empties.Given as goal

abbrev pub invariant-loop-holding : goal.invariant-loop-holding
invariant-loop-holding l =
    All (λ h. holds_though_empty l.listed h ≡ false) (take l.holding-index l.holding-items)
