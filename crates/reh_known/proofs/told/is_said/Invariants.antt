-- No content so far tells of the bookie and the ledger.
use Rattle.std.proofs.Common.{◌≡◌, take}
use Rattle.std.specs.Prelude.{false}
use Rattle.reh_known.specs.Known.{is_said}
use Rattle.reh_known.proofs.told.is_said.Given as goal

abbrev pub invariant-loop-holding : goal.invariant-loop-holding
invariant-loop-holding l = is_said (take l.holding-index l.told) l.may_assume l.bookie l.ledger ≡ false
