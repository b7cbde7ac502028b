-- The line reads back.
use Rattle.std.proofs.Common.{◌∙◌, ◌++◌, string_bytes, arith}
use Rattle.json.specs.Tree.{json_tokens}
use Rattle.reh_answer.proofs.ObjectLaws.{reads}
use Rattle.reh_check_json.specs.Inventories.{inventory_value}
use Rattle.reh_check_json.proofs.inventories.inventory_json.Goals as goal

pub returns-clause-reads_back : goal.returns-clause-reads_back
returns-clause-reads_back c =
    let value = inventory_value c.args.counts.now in
    record {
      line = string_bytes c.in_ok-text.text;
      ends = c.in_ok-push_str.ensures.bytes;
      reads =
          reads value (string_bytes c.in_ok-text.text) (omega arith)
          (c.in_ok-text.ensures.reads_back
          ∙ c.in_ok-add_all.ensures.tokens
          ∙ (λ i. c.new-json.ensures.tokens i ++ json_tokens value));
    }
