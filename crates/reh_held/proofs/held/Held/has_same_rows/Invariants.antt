use Rattle.std.proofs.Common.{◌≡◌, ◌<◌, ℕ}
use Rattle.reh_model.specs.Contents.{has}
use Rattle.reh_held.proofs.held.Held.has_same_rows.Given as goal

-- the rows of the bookies so far are the same
abbrev pub invariant-loop-bookie : goal.invariant-loop-bookie
invariant-loop-bookie l =
    (b e : ℕ) → b < l.bookie → has l.self.contents b l.ledger e ≡ has l.other.contents b l.ledger e
