-- The changes so far and those of the ledgers that are left are all of them.
use Rattle.std.proofs.Common.{◌≡◌, ◌++◌}
use Rattle.reh_step.proofs.RecordLaws.{locks_from}
use Rattle.reh_step.proofs.records.expire.Given as goal

abbrev pub invariant-loop-place : goal.invariant-loop-place
invariant-loop-place l = locks_from l.worker 0 l.ledgers ≡ l.list.items ++ locks_from l.worker l.place l.ledgers
