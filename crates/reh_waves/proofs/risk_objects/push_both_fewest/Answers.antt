use Rattle.std.proofs.Common.{string_bytes}
use Rattle.reh_waves.proofs.PushLaws.{before}
use Rattle.reh_waves.proofs.risk_objects.push_both_fewest.Goals as goal

pub returns : goal.returns
returns c =
    before c.write.result (string_bytes c.write.new.self) (string_bytes c.args.text.now) (string_bytes c.push_fewest.new.text) _ _ c.in_ok-push_fewest.ensures
    (before c.write.result (string_bytes c.write.new.self) (string_bytes c.push_fewest.new.text) (string_bytes c.push_least.new.text) _ _ c.in_ok-push_least.ensures
    c.write.ensures.bytes)
