-- The changes so far and those of the ledgers that are left are all of them.
use Rattle.std.proofs.Common.{◌≡◌, ◌++◌}
use Rattle.reh_step.proofs.RecordLaws.{tasks_from}
use Rattle.reh_step.proofs.records.audit.Given as goal

abbrev pub invariant-loop-place : goal.invariant-loop-place
invariant-loop-place l = tasks_from l.state 0 l.ledgers ≡ l.list.items ++ tasks_from l.state l.place l.ledgers
