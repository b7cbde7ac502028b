-- What is added so far.
use Rattle.std.proofs.Common.{take}
use Rattle.std.specs.Prelude.{flat_map}
use Rattle.json.specs.Tree.{json_tokens}
use Rattle.reh_answer.specs.Objects as objects
use Rattle.reh_answer.proofs.objects.add_numbers.Given as goal

abbrev pub invariant-loop-number : goal.invariant-loop-number
invariant-loop-number l = objects.Adds (flat_map (λ n. json_tokens (objects.number_json n)) (take l.number-index l.numbers)) l.fn.json l.json
