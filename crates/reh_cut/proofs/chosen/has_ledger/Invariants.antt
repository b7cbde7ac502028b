-- None of those that are passed has it.
use Rattle.std.proofs.Common.{◌≡◌, false, take}
use Rattle.std.specs.List.{list_any}
use Rattle.reh_cut.specs.Chosen.{has_id}
use Rattle.reh_cut.proofs.chosen.has_ledger.Given as goal

abbrev pub invariant-loop-ledger : goal.invariant-loop-ledger
invariant-loop-ledger l = list_any (has_id l.id) (take l.ledger-index l.ledgers) ≡ false
