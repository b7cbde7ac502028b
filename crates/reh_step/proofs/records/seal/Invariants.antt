-- The changes so far are those of the metadata and of the words of the bookies so far.
use Rattle.reh_step.proofs.SealLaws.{AreSealed}
use Rattle.reh_step.proofs.records.seal.Given as goal

abbrev pub invariant-loop-bookie : goal.invariant-loop-bookie
invariant-loop-bookie l = AreSealed l.state l.place l.found.ledger.now l.bookie l.list.items
