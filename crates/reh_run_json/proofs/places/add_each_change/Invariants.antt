-- What is added so far.
use Rattle.std.proofs.Common.{take}
use Rattle.std.specs.Prelude.{flat_map}
use Rattle.reh_answer.specs.Objects.{Adds}
use Rattle.reh_run_json.specs.Changes.{change_objects}
use Rattle.reh_run_json.specs.Values.{tokens_of}
use Rattle.reh_run_json.proofs.places.add_each_change.Given as goal

abbrev pub invariant-loop-change : goal.invariant-loop-change
invariant-loop-change l =
    Adds (flat_map (λ c. tokens_of (change_objects l.state c)) (take l.change-index l.list)) l.fn.json l.json
