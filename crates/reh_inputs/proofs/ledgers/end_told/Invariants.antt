-- The end of the holdings that are passed.
use Rattle.std.proofs.Common.{◌≡◌, fold, take}
use Rattle.reh_inputs.specs.Ledgers.{end_after}
use Rattle.reh_inputs.proofs.ledgers.end_told.Given as goal

abbrev pub invariant-loop-holding : goal.invariant-loop-holding
invariant-loop-holding l =
    l.end ≡ fold (λ end h. fold end_after end h.now.ranges) 0 (take l.holding-index l.held)
