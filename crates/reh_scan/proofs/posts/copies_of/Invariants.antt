-- The bits of the entries that can be copied from the bookies at the indexes that are passed.
use Rattle.std.proofs.Common.{◌≡◌, length}
use Rattle.reh_types.specs.declared.limits.TheConstants.{MAX_BOOKIES}
use Rattle.reh_scan.proofs.CopyLaws.{AreCarried}
use Rattle.reh_scan.proofs.posts.copies_of.Given as goal

abbrev pub invariant-loop-index : goal.invariant-loop-index
invariant-loop-index l = record {
  whole : length l.copies ≡ MAX_BOOKIES;
  carried : AreCarried l.rows l.fragment l.metadata.size l.metadata.write_quorum l.number l.index l.copies;
}
