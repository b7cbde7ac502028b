-- Those that are passed.
use Rattle.std.proofs.Common.{◌≡◌, map, take}
use Rattle.reh_model.specs.Metadata.{is_in_recovery}
use Rattle.reh_plan.proofs.ends.recovering_in.Given as goal

abbrev pub invariant-loop-ledger : goal.invariant-loop-ledger
invariant-loop-ledger l =
    l.recovering.items ≡ map (λ g. is_in_recovery g.metadata.state) (take l.ledger-index l.ledger-items)
