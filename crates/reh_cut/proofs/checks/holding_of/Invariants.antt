-- It is among those that are left.
use Rattle.std.proofs.Common.{◌≡◌, drop}
use Rattle.std.specs.Prelude.{◌==◌, ◌&&◌, find}
use Rattle.reh_cut.proofs.checks.holding_of.Given as goal

abbrev pub invariant-loop-holding : goal.invariant-loop-holding
invariant-loop-holding l =
    find (λ h. (h.bookie == l.bookie) && (h.ledger == l.ledger)) (drop l.holding-index l.holdings)
    ≡ find (λ h. (h.bookie == l.bookie) && (h.ledger == l.ledger)) l.holdings
