-- The members that are passed are marked where they are registered.
use Rattle.std.proofs.Common.{◌≡◌, ◌<◌, ℕ, length, slice_index}
use Rattle.reh_types.specs.declared.limits.TheConstants.{MAX_ENSEMBLE_SIZE}
use Rattle.reh_model.specs.Cluster.{is_up}
use Rattle.reh_step.specs.Marks.{is_marked}
use Rattle.reh_step.proofs.recoveries.registered_members.Given as goal

abbrev pub invariant-loop-index : goal.invariant-loop-index
invariant-loop-index l = record {
  whole : length l.registered ≡ MAX_ENSEMBLE_SIZE;
  marked : (index : ℕ) → index < l.index
      → is_marked l.registered index ≡ is_up l.state (slice_index l.fragment.ensemble index);
}
