-- The sources of the blocks that are passed, of which the last one's are `block`.
use Rattle.std.proofs.Common.{◌≡◌, ◌-◌, ◌≤◌, ◌⊎◌, map}
use Rattle.reh_model.specs.Striping.{striped_entries}
use Rattle.reh_scan.specs.Jobs.{source_in}
use Rattle.reh_scan.proofs.jobs.find_sources.Given as goal

abbrev pub invariant-loop-from : goal.invariant-loop-from
invariant-loop-from l = record {
  sources : l.sources.items
      ≡ map (source_in l.reading)
      (striped_entries l.reading.first l.from l.index l.reading.size l.reading.write_quorum);
  block : l.block.items
      ≡ map (source_in l.reading) (striped_entries l.before l.from l.index l.reading.size l.reading.write_quorum);
  begun : l.reading.first ≤ l.before;
  ordered : l.before ≤ l.from;
  within : (l.from ≤ l.reading.stop) ⊎ (l.from ≡ l.reading.first);
}

abbrev pub decreases-loop-from : goal.decreases-loop-from
decreases-loop-from l = l.reading.stop - l.from
