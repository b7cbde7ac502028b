-- Those of the ledgers that are passed.
use Rattle.std.proofs.Common.{◌≡◌, map, take}
use Rattle.std.specs.Prelude.{All}
use Rattle.reh_plan.specs.Plans.{IsLeftFor, left_ids}
use Rattle.reh_plan.proofs.reasons.left_in.Given as goal

abbrev pub invariant-loop-ledger : goal.invariant-loop-ledger
invariant-loop-ledger l = record {
  of : map (λ x. x.ledger) l.left.items ≡ left_ids l.state (take l.ledger-index l.ledger-items);
  why : All (IsLeftFor l.workers.rules l.full l.state l.state.parts.ledgers) l.left.items;
}
