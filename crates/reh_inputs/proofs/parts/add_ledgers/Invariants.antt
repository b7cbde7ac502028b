-- The ledgers that are passed are there.
use Rattle.std.proofs.Common.{◌≡◌, ◌++◌, map, take}
use Rattle.reh_inputs.specs.Gathered.{ledger_in}
use Rattle.reh_inputs.proofs.parts.add_ledgers.Given as goal

abbrev pub invariant-loop-ledger : goal.invariant-loop-ledger
invariant-loop-ledger l =
    l.ledgers.items
    ≡ l.fn.ledgers.items ++ map (ledger_in l.numbers l.reading l.listed) (take l.ledger-index l.ledger-items)
