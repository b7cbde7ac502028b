-- No holding so far is of the bookie and the ledger.
use Rattle.std.proofs.Common.{◌≡◌, take}
use Rattle.std.specs.Prelude.{false}
use Rattle.reh_picture_out.specs.Marks.{is_told}
use Rattle.reh_picture_out.proofs.told.is_told.Given as goal

abbrev pub invariant-loop-holding : goal.invariant-loop-holding
invariant-loop-holding l = is_told (take l.holding-index l.told) l.bookie l.ledger ≡ false
