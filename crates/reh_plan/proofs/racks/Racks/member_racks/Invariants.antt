-- The racks of the members that are passed.
use Rattle.std.proofs.Common.{◌≡◌, ◌<◌, ℕ, length, slice_index}
use Rattle.reh_types.specs.declared.limits.TheConstants.{MAX_ENSEMBLE_SIZE}
use Rattle.reh_plan.specs.Racks.{rack_of}
use Rattle.reh_plan.proofs.racks.Racks.member_racks.Given as goal

abbrev pub invariant-loop-index : goal.invariant-loop-index
invariant-loop-index l = record {
  whole : length l.racks ≡ MAX_ENSEMBLE_SIZE;
  there : (index : ℕ) → index < l.index → slice_index l.racks index ≡ rack_of l.self (slice_index l.fragment.ensemble index);
}
