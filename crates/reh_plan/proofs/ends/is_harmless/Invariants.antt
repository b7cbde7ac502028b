-- Of those that are passed, each that is in recovery was.
use Rattle.std.proofs.Common.{map, take}
use Rattle.reh_model.specs.Metadata.{is_in_recovery}
use Rattle.reh_plan.specs.Ends.{AreAmong}
use Rattle.reh_plan.proofs.ends.is_harmless.Given as goal

abbrev pub invariant-loop-place : goal.invariant-loop-place
invariant-loop-place l = AreAmong (map (λ g. is_in_recovery g.metadata.state) (take l.place l.ledger-items)) l.recovering
