use Rattle.std.proofs.Common.{string_bytes}
use Rattle.reh_waves.proofs.PushLaws.{before, written}
use Rattle.reh_waves.proofs.risk_objects.push_pair.Goals as goal

pub returns : goal.returns
returns c =
    before c.push_str.result (string_bytes c.push_str.new.self) (string_bytes c.args.text.now) (string_bytes c.push_json_name.new.text) _ _ c.in_ok-push_json_name.ensures
    (before c.push_str.result (string_bytes c.push_str.new.self) (string_bytes c.push_json_name.new.text) (string_bytes c.push_json_name-2.new.text) _ _ c.in_ok-push_json_name-2.ensures
    (written c.push_str.result (string_bytes c.push_str.new.self) _ _ c.push_str.ensures.bytes))
