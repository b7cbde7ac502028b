-- What is added so far.
use Rattle.std.proofs.Common.{take}
use Rattle.std.specs.Prelude.{flat_map}
use Rattle.json.specs.Tree.{json_tokens}
use Rattle.reh_answer.specs.Objects.{Adds}
use Rattle.reh_inventory_plan.specs.Objects.{left_json}
use Rattle.reh_inventory_plan.proofs.objects.add_each_left.Given as goal

abbrev pub invariant-loop-one : goal.invariant-loop-one
invariant-loop-one l = Adds (flat_map (λ x. json_tokens (left_json x)) (take l.one-index l.left)) l.fn.json l.json
