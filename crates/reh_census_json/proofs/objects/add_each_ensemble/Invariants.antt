-- What is added so far.
use Rattle.std.proofs.Common.{take}
use Rattle.std.specs.Prelude.{flat_map}
use Rattle.json.specs.Tree.{json_tokens}
use Rattle.reh_answer.specs.Objects.{Adds}
use Rattle.reh_census_json.specs.Objects.{ensemble_json}
use Rattle.reh_census_json.proofs.objects.add_each_ensemble.Given as goal

abbrev pub invariant-loop-counted : goal.invariant-loop-counted
invariant-loop-counted l = Adds (flat_map (λ e. json_tokens (ensemble_json l.names e)) (take l.counted-index l.ensembles)) l.fn.json l.json
