use Rattle.std.proofs.Common.{string_bytes}
use Rattle.reh_answer.proofs.TextLaws.{before, written}
use Rattle.reh_answer.proofs.verdicts.push_verdict.Goals as goal

pub returns : goal.returns
returns c =
    before c.push_str-2.result (string_bytes c.push_str-2.new.self) (string_bytes c.args.text.now) (string_bytes c.push_str.new.self) _ _ c.in_ok-push_str.ensures.bytes
    (before c.push_str-2.result (string_bytes c.push_str-2.new.self) (string_bytes c.push_str.new.self) (string_bytes c.push_answer.new.text) _ _ c.in_ok-push_answer.ensures
    (written c.push_str-2.result (string_bytes c.push_str-2.new.self) _ _ c.push_str-2.ensures.bytes))
