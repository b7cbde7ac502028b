-- The bits of the entries that the rows at the indexes that are passed have.
use Rattle.reh_scan.proofs.WordLaws.{IsRead}
use Rattle.reh_scan.proofs.sources.readable_word.Given as goal

abbrev pub invariant-loop-index : goal.invariant-loop-index
invariant-loop-index l = IsRead l.rows l.metadata.size l.metadata.write_quorum l.number l.index l.readable
