-- The contents that are passed are of other bookies.
use Rattle.std.proofs.Common.{◌≡◌, drop}
use Rattle.reh_census.specs.Ledgers.{told_in, told_of}
use Rattle.reh_tally.proofs.classes.content_of.Given as goal

abbrev pub invariant-loop-index : goal.invariant-loop-index
invariant-loop-index l = told_in (drop l.index l.contents) l.ledger.rest l.bookie ≡ told_of l.ledger l.bookie
