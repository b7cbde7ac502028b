-- What is added so far.
use Rattle.std.proofs.Common.{take}
use Rattle.std.specs.Prelude.{flat_map}
use Rattle.json.specs.Tree.{json_tokens}
use Rattle.reh_answer.specs.Objects.{Adds}
use Rattle.reh_run_json.specs.Reports.{survey_line_json}
use Rattle.reh_run_json.proofs.surveys.add_each_line.Given as goal

abbrev pub invariant-loop-line : goal.invariant-loop-line
invariant-loop-line l =
    Adds (flat_map (λ x. json_tokens (survey_line_json x)) (take l.line-index l.lines)) l.fn.json l.json
