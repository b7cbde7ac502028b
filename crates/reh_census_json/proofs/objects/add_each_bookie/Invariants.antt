-- The bookies that are added so far.
use Rattle.std.proofs.Common.{take}
use Rattle.std.specs.Prelude.{flat_map}
use Rattle.std.specs.List.{zip}
use Rattle.json.specs.Tree.{json_tokens}
use Rattle.reh_answer.specs.Objects.{Adds}
use Rattle.reh_census_json.specs.Objects.{named_json}
use Rattle.reh_census_json.proofs.objects.add_each_bookie.Given as goal

abbrev pub invariant-loop-number : goal.invariant-loop-number
invariant-loop-number l =
    Adds (flat_map (λ b. json_tokens (named_json l.racks b)) (take l.number (zip l.names l.listed))) l.fn.json l.json
