-- The bits of the entries that the rows at the indexes that are passed have.
use Rattle.std.proofs.Common.{◌+◌, ◌<◌, ℕ, slice_index}
use Rattle.reh_scan.proofs.WordLaws.{IsRead}
use Rattle.reh_scan.proofs.sources.readable_words.Given as goal

abbrev pub invariant-loop-index : goal.invariant-loop-index
invariant-loop-index l = (k : ℕ) → k < 4
    → IsRead l.rows l.metadata.size l.metadata.write_quorum (l.number + k) l.index (slice_index l.readable.words k)
