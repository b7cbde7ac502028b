-- What is added so far.
use Rattle.std.proofs.Common.{take, string_bytes}
use Rattle.std.specs.Prelude.{flat_map}
use Rattle.json.specs.Json.{string}
use Rattle.json.specs.Tree.{json_tokens}
use Rattle.reh_answer.specs.Objects as objects
use Rattle.reh_answer.proofs.objects.add_texts.Given as goal

abbrev pub invariant-loop-text : goal.invariant-loop-text
invariant-loop-text l = objects.Adds (flat_map (λ t. json_tokens (string (string_bytes t))) (take l.text-index l.texts)) l.fn.json l.json
