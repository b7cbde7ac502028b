-- The holdings that are passed are there.
use Rattle.std.proofs.Common.{◌≡◌, ◌++◌, map, take}
use Rattle.reh_inputs.proofs.by_ledger.extend.Given as goal

abbrev pub invariant-loop-holding : goal.invariant-loop-holding
invariant-loop-holding l = map (λ h. h.now) l.held.items ≡ map (λ h. h.now) l.fn.held.items ++ take l.holding-index l.holdings
