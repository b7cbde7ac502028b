-- What is added so far.
use Rattle.std.proofs.Common.{take}
use Rattle.std.specs.Prelude.{flat_map}
use Rattle.reh_answer.specs.Objects.{Adds}
use Rattle.reh_inventory_plan.specs.Objects.{left_tokens}
use Rattle.reh_inventory_plan.proofs.objects.add_each_outcome.Given as goal

abbrev pub invariant-loop-outcome : goal.invariant-loop-outcome
invariant-loop-outcome l = Adds (flat_map left_tokens (take l.outcome-index l.outcomes)) l.fn.json l.json
