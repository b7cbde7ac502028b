-- Those of the ledgers that are passed, and of those that are left.
use Rattle.std.proofs.Common.{◌≡◌, ◌++◌}
use Rattle.std.specs.Iterator.Adapters.{zip_first, zip_second}
use Rattle.std.specs.Slice.Iter.{iter_rest}
use Rattle.reh_plan.specs.Racks.{fewer_among}
use Rattle.reh_plan.proofs.fewer.fewer_racks.Given as goal

abbrev pub invariant-loop-metadata : goal.invariant-loop-metadata
invariant-loop-metadata l =
    l.fewer.items
    ++ fewer_among l.racks (iter_rest (zip_first l.metadata-iterator)) (iter_rest (zip_second l.metadata-iterator))
    ≡ fewer_among l.racks l.before l.state.parts.ledgers
