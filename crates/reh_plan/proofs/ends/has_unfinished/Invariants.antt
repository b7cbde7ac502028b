-- The ledgers that are passed are finished.
use Rattle.std.proofs.Common.{All, take}
use Rattle.reh_plan.proofs.EndLaws.{IsFinished}
use Rattle.reh_plan.proofs.ends.has_unfinished.Given as goal

abbrev pub invariant-loop-ledger : goal.invariant-loop-ledger
invariant-loop-ledger l = All (IsFinished l.workers.rules l.state) (take l.ledger-index l.ledger-items)
