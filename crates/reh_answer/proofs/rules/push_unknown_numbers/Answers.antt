use Rattle.std.proofs.Common.{string_bytes}
use Rattle.reh_answer.proofs.TextLaws.{before, written}
use Rattle.reh_answer.proofs.rules.push_unknown_numbers.Goals as goal

pub returns : goal.returns
returns c =
    before c.push_str.result (string_bytes c.push_str.new.self) (string_bytes c.args.text.now) (string_bytes c.write.new.self) _ _ c.in_ok-write.ensures.bytes
    (before c.push_str.result (string_bytes c.push_str.new.self) (string_bytes c.write.new.self) (string_bytes c.push_some.new.text) _ _ c.in_ok-push_some.ensures
    (before c.push_str.result (string_bytes c.push_str.new.self) (string_bytes c.push_some.new.text) (string_bytes c.push_some-2.new.text) _ _ c.in_ok-push_some-2.ensures
    (written c.push_str.result (string_bytes c.push_str.new.self) _ _ c.push_str.ensures.bytes)))
