-- What is added so far.
use Rattle.std.proofs.Common.{map, take, string_bytes}
use Rattle.std.specs.Prelude.{flat_map}
use Rattle.json.specs.Json.{string}
use Rattle.json.specs.Tree.{json_tokens}
use Rattle.reh_answer.specs.Objects.{Adds}
use Rattle.reh_check_json.proofs.findings.add_texts.Given as goal

abbrev pub invariant-loop-text : goal.invariant-loop-text
invariant-loop-text l =
    Adds (flat_map (λ n. json_tokens (string n)) (map string_bytes (take l.text-index l.texts))) l.fn.json l.json
