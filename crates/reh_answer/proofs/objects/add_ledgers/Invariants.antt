-- What is added so far.
use Rattle.std.proofs.Common.{take}
use Rattle.std.specs.Prelude.{flat_map}
use Rattle.json.specs.Tree.{json_tokens}
use Rattle.reh_answer.specs.Objects as objects
use Rattle.reh_answer.proofs.objects.add_ledgers.Given as goal

abbrev pub invariant-loop-one : goal.invariant-loop-one
invariant-loop-one l = objects.Adds (flat_map (λ a. json_tokens (objects.against_json a)) (take l.one-index l.against)) l.fn.json l.json
