-- The line reads back.
use Rattle.std.proofs.Common.{◌∙◌, ◌++◌, string_bytes, false}
use Rattle.json.specs.Tree.{json_tokens}
use Rattle.reh_answer.proofs.ObjectLaws.{reads}
use Rattle.reh_lines.specs.Lines.{answered_lines}
use Rattle.reh_check_json.specs.Objects.{checked_value}
use Rattle.reh_check_json.proofs.DepthLaws.{checked-depth}
use Rattle.reh_check_json.proofs.objects.known_json.Goals as goal

pub returns-clause-reads_back : goal.returns-clause-reads_back
returns-clause-reads_back c =
    let lines = answered_lines false c.args.script.now in
    let value = checked_value c.args.counts.now c.args.known.now.state.now lines in
    record {
      line = string_bytes c.in_ok-text.text;
      ends = c.in_ok-push_str.ensures.bytes;
      reads =
          reads value (string_bytes c.in_ok-text.text) (checked-depth c.args.counts.now c.args.known.now.state.now lines)
          (c.in_ok-text.ensures.reads_back
          ∙ c.in_ok-faulty.ensures.adds.tokens
          ∙ (λ i. c.new-json.ensures.tokens i ++ json_tokens value));
    }
