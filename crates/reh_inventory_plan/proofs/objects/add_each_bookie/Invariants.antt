-- What is added so far.
use Rattle.std.proofs.Common.{take}
use Rattle.std.specs.Prelude.{flat_map}
use Rattle.json.specs.Tree.{json_tokens}
use Rattle.reh_answer.specs.Objects.{Adds}
use Rattle.reh_inventory_plan.specs.Objects.{bookie_json}
use Rattle.reh_inventory_plan.proofs.objects.add_each_bookie.Given as goal

abbrev pub invariant-loop-bookie : goal.invariant-loop-bookie
invariant-loop-bookie l = Adds (flat_map (λ b. json_tokens (bookie_json l.outcomes b)) (take l.bookie-index l.bookies)) l.fn.json l.json
