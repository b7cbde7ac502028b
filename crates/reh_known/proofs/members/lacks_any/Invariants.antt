-- No entry that is passed is lacked.
use Rattle.std.proofs.Common.{◌≡◌}
use Rattle.std.specs.Prelude.{false, not}
use Rattle.std.specs.List.{list_any}
use Rattle.reh_model.specs.Cluster.{holds}
use Rattle.reh_known.proofs.members.lacks_any.Given as goal

abbrev pub invariant-loop-entry : goal.invariant-loop-entry
invariant-loop-entry l = list_any (λ e. not (holds l.state l.bookie l.ledger e)) l.yielded ≡ false
