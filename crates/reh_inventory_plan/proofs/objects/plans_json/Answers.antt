-- The line reads back.
use Rattle.std.proofs.Common.{◌∙◌, ◌++◌, string_bytes}
use Rattle.json.specs.Tree.{json_tokens}
use Rattle.reh_answer.proofs.ObjectLaws.{reads}
use Rattle.reh_inventory_plan.specs.Objects.{plans_value}
use Rattle.reh_inventory_plan.proofs.ObjectLaws.{plans-depth}
use Rattle.reh_inventory_plan.proofs.objects.plans_json.Goals as goal

pub returns-clause-reads_back : goal.returns-clause-reads_back
returns-clause-reads_back c =
    let value = plans_value c.args.plan.now in
    record {
      line = string_bytes c.in_ok-text.text;
      ends = c.in_ok-push_str.ensures.bytes;
      reads =
          reads value (string_bytes c.in_ok-text.text) (plans-depth c.args.plan.now)
          (c.in_ok-text.ensures.reads_back
          ∙ c.in_ok-add_all.ensures.tokens
          ∙ (λ i. c.new-json.ensures.tokens i ++ json_tokens value));
    }
