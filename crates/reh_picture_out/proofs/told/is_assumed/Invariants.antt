-- No holding so far is assumed and of the ledger.
use Rattle.std.proofs.Common.{◌≡◌, take}
use Rattle.std.specs.Prelude.{false}
use Rattle.reh_picture_out.specs.Marks.{has_assumed}
use Rattle.reh_picture_out.proofs.told.is_assumed.Given as goal

abbrev pub invariant-loop-holding : goal.invariant-loop-holding
invariant-loop-holding l = has_assumed (take l.holding-index l.told) l.ledger ≡ false
