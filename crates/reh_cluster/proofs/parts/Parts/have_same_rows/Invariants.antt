use Rattle.std.proofs.Common.{take}
use Rattle.reh_cluster.specs.Same.{HaveSameRows}
use Rattle.reh_cluster.proofs.parts.Parts.have_same_rows.Given as goal

-- the rows of the ledgers so far are the same
abbrev pub invariant-loop-ledger : goal.invariant-loop-ledger
invariant-loop-ledger l =
    HaveSameRows l.self.bookies (take l.ledger-index l.self.parts.ledgers) l.self.parts.held l.other.parts.held
