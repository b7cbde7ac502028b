-- The first source that is lost is one of those of the blocks that are left; of those of the last block none is.
use Rattle.std.proofs.Common.{◌≡◌, ◌-◌, ◌≤◌, ◌⊎◌, [], None, map, length}
use Rattle.std.specs.List.{zip}
use Rattle.reh_model.specs.Checks.{first_reason}
use Rattle.reh_model.specs.Scan.{lost_source}
use Rattle.reh_model.specs.Striping.{striped_entries}
use Rattle.reh_scan.specs.Posts.{lost_copy}
use Rattle.reh_scan.proofs.posts.check_sources.Given as goal

abbrev pub invariant-loop-from : goal.invariant-loop-from
invariant-loop-from l = record {
  lost : first_reason
      (map (lost_source l.state l.ledger l.fragment)
      (zip
      (striped_entries l.content.first l.content.stop l.content.aim.index l.ledger.metadata.size
      l.ledger.metadata.write_quorum)
      l.content.sources))
      ≡ first_reason
      (map (lost_copy l.rows l.metadata l.fragment)
      (zip (striped_entries l.from l.content.stop l.content.aim.index l.metadata.size l.metadata.write_quorum) l.sources));
  block : first_reason
      (map (lost_copy l.rows l.metadata l.fragment)
      (zip (striped_entries l.before l.from l.content.aim.index l.metadata.size l.metadata.write_quorum) l.block))
      ≡ None;
  whole : (length l.block
      ≡ length (striped_entries l.before l.from l.content.aim.index l.metadata.size l.metadata.write_quorum))
      ⊎ (l.sources ≡ []);
  ordered : l.before ≤ l.from;
  within : (l.from ≤ l.content.stop) ⊎ (l.from ≡ l.content.first);
}

abbrev pub decreases-loop-from : goal.decreases-loop-from
decreases-loop-from l = l.content.stop - l.from
