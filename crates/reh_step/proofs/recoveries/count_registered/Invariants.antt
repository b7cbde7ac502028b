-- The members that are counted, and those among the indexes that are left, each of which is in the ensemble.
use Rattle.std.proofs.Common.{◌≡◌, ◌+◌, ◌<◌, ◌≤◌, All, length}
use Rattle.std.specs.Prelude.{count_by}
use Rattle.reh_types.specs.declared.limits.TheConstants.{MAX_ENSEMBLE_SIZE}
use Rattle.reh_model.specs.Striping.{write_set}
use Rattle.reh_step.specs.Marks.{is_marked}
use Rattle.reh_step.proofs.recoveries.count_registered.Given as goal

abbrev pub invariant-loop-index : goal.invariant-loop-index
invariant-loop-index l = record {
  counted : l.count + count_by (is_marked l.registered) l.index-iterator
      ≡ count_by (is_marked l.registered) (write_set l.entry l.metadata.size l.metadata.write_quorum);
  room : l.count + length l.index-iterator ≤ MAX_ENSEMBLE_SIZE;
  within : All (λ index. index < l.metadata.size) l.index-iterator;
}
