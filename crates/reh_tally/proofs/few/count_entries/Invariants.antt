-- Those that are passed.
use Rattle.std.proofs.Common.{◌≡◌, take}
use Rattle.reh_tally.specs.Few.{capped, entries_of}
use Rattle.reh_tally.proofs.few.count_entries.Given as goal

abbrev pub invariant-loop-ledger : goal.invariant-loop-ledger
invariant-loop-ledger l = l.total ≡ capped (entries_of (take l.ledger-index l.ledgers))
