-- What is added so far.
use Rattle.std.proofs.Common.{take}
use Rattle.std.specs.Prelude.{flat_map}
use Rattle.json.specs.Tree.{json_tokens}
use Rattle.reh_answer.specs.Objects.{Adds}
use Rattle.reh_census_json.specs.Objects.{name_json}
use Rattle.reh_census_json.proofs.members.add_each.Given as goal

abbrev pub invariant-loop-number : goal.invariant-loop-number
invariant-loop-number l = Adds (flat_map (λ n. json_tokens (name_json l.names n)) (take l.number-index l.numbers)) l.fn.json l.json
