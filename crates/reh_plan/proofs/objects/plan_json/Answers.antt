-- The line reads back.
use Rattle.std.proofs.Common.{◌∙◌, ◌++◌, string_bytes}
use Rattle.json.specs.Tree.{json_tokens}
use Rattle.reh_answer.proofs.ObjectLaws.{reads}
use Rattle.reh_plan.specs.Objects.{plan_value}
use Rattle.reh_plan.proofs.ObjectLaws.{plan-depth}
use Rattle.reh_plan.proofs.objects.plan_json.Goals as goal

pub returns-clause-reads_back : goal.returns-clause-reads_back
returns-clause-reads_back c =
    let value = plan_value c.args.planned.now in
    record {
      line = string_bytes c.in_ok-text.text;
      ends = c.in_ok-push_str.ensures.bytes;
      reads =
          reads value (string_bytes c.in_ok-text.text) (plan-depth c.args.planned.now)
          (c.in_ok-text.ensures.reads_back
          ∙ c.in_ok-add_all.ensures.tokens
          ∙ (λ i. c.new-json.ensures.tokens i ++ json_tokens value));
    }
