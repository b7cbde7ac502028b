-- Those of the write sets that are passed.
use Rattle.std.proofs.Common.{◌≡◌, ◌≤◌, map, min, slice_index}
use Rattle.std.specs.Prelude.{count_by, nat_lt}
use Rattle.reh_model.specs.Striping.{range, write_set}
use Rattle.reh_plan.specs.Racks.{least_racks}
use Rattle.reh_plan.proofs.racks.count_lacking.Given as goal

abbrev pub invariant-loop-entry : goal.invariant-loop-entry
invariant-loop-entry l = record {
  counted : l.count ≡ count_by (λ entry. nat_lt
      (least_racks (map (slice_index l.racks) (write_set entry l.metadata.size l.metadata.write_quorum)))
      (min l.least l.metadata.write_quorum)) (range 0 l.entry);
  within : l.count ≤ l.entry;
}
