-- The racks of the copies that are passed, and of those that are left.
use Rattle.std.proofs.Common.{◌≡◌, ◌+◌, ◌<◌, ◌++◌, All, length, map, slice_index, take}
use Rattle.reh_types.specs.declared.limits.TheConstants.{MAX_ENSEMBLE_SIZE}
use Rattle.reh_model.specs.Striping.{write_set}
use Rattle.reh_plan.proofs.racks.copy_racks.Given as goal

abbrev pub invariant-loop-index : goal.invariant-loop-index
invariant-loop-index l = record {
  room : l.count + length l.index-iterator ≡ l.metadata.write_quorum;
  whole : length l.copies ≡ MAX_ENSEMBLE_SIZE;
  within : All (λ index. index < l.metadata.size) l.index-iterator;
  done : take l.count l.copies ++ map (slice_index l.racks) l.index-iterator
      ≡ map (slice_index l.racks) (write_set l.entry l.metadata.size l.metadata.write_quorum);
}
