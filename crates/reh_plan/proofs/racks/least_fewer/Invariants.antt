-- The least number of the write sets that are passed.
use Rattle.std.proofs.Common.{◌≡◌, filter, map, min, slice_index}
use Rattle.std.specs.List.{reduce}
use Rattle.reh_model.specs.Striping.{range, write_set}
use Rattle.reh_plan.specs.Racks.{least_racks, may_be_fewer}
use Rattle.reh_plan.proofs.racks.least_fewer.Given as goal

abbrev pub invariant-loop-entry : goal.invariant-loop-entry
invariant-loop-entry l =
    l.fewest ≡ reduce min
    (map (λ e. least_racks (map (slice_index l.new) (write_set e l.after.size l.after.write_quorum)))
    (filter
    (λ e. may_be_fewer l.least
    (map (slice_index l.old) (write_set e l.before.size l.before.write_quorum))
    (map (slice_index l.new) (write_set e l.after.size l.after.write_quorum)))
    (range 0 l.entry)))
