-- Nothing is held, and the ledgers so far, each with one table at most, have rows as long as they say.
use Rattle.std.proofs.Common.{◌≡◌, ◌≤◌, take}
use Rattle.std.specs.FinMap as finite
use Rattle.reh_types.specs.Sets as set
use Rattle.reh_cluster.specs.Parts.{HasRows}
use Rattle.reh_picture.proofs.contents.empty_rows.Given as goal

abbrev pub invariant-loop-ledger : goal.invariant-loop-ledger
invariant-loop-ledger l = record {
  contents : l.held.contents ≡ set.empty;
  few : finite.len l.held.words ≤ l.ledger-index;
  rows : HasRows l.bookies (take l.ledger-index l.ledgers) l.held;
}
