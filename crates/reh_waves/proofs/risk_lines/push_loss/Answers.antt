use Rattle.std.proofs.Common.{string_bytes}
use Rattle.reh_waves.proofs.PushLaws.{before, written}
use Rattle.reh_waves.proofs.risk_lines.push_loss.Goals as goal

pub returns : goal.returns
returns c =
    before c.push_str.result (string_bytes c.push_str.new.self) (string_bytes c.args.text.now) (string_bytes c.push_lost.new.text) _ _ c.in_ok-push_lost.ensures
    (before c.push_str.result (string_bytes c.push_str.new.self) (string_bytes c.push_lost.new.text) (string_bytes c.push_rules.new.text) _ _ c.in_ok-push_rules.ensures
    (written c.push_str.result (string_bytes c.push_str.new.self) _ _ c.push_str.ensures.bytes))
