-- Those of the fragments that are passed.
use Rattle.std.proofs.Common.{◌≡◌, ◌++◌}
use Rattle.std.specs.Prelude.{flat_map}
use Rattle.reh_model.specs.Striping.{range}
use Rattle.reh_plan.specs.Racks.{fewer_at}
use Rattle.reh_plan.proofs.fewer.add_fewer.Given as goal

abbrev pub invariant-loop-fragment : goal.invariant-loop-fragment
invariant-loop-fragment l =
    l.fewer.items ≡ l.fn.fewer.items ++ flat_map (fewer_at l.racks l.before l.ledger) (range 0 l.fragment)
