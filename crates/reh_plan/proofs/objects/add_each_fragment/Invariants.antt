-- What is added so far.
use Rattle.std.proofs.Common.{take}
use Rattle.std.specs.Prelude.{flat_map}
use Rattle.json.specs.Tree.{json_tokens}
use Rattle.reh_answer.specs.Objects.{Adds}
use Rattle.reh_plan.specs.Objects.{fragment_json}
use Rattle.reh_plan.proofs.objects.add_each_fragment.Given as goal

abbrev pub invariant-loop-fragment : goal.invariant-loop-fragment
invariant-loop-fragment l = Adds (flat_map (λ f. json_tokens (fragment_json f)) (take l.fragment-index l.fewer)) l.fn.json l.json
