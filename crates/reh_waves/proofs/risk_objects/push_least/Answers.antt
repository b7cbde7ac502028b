use Rattle.std.proofs.Common.{◌++◌, ℕ, Option, Some, None, ap, sym}
use Rattle.std.specs.Prelude.{string_bytes}
use Rattle.reh_waves.specs.Json.{least_field}
use Rattle.reh_waves.proofs.PushLaws.{instead, written}
use Rattle.reh_waves.proofs.risk_objects.push_least.Goals as goal

pub returns-in-Some : goal.returns-in-Some
returns-in-Some c =
    instead c.write.result (string_bytes c.write.new.self) (string_bytes c.args.text.now) (least_field (Some c.in-Some.copies)) (least_field c.args.least)
    (sym (ap (λ (copies : Option ℕ). least_field copies) c.in-Some.is)) c.write.ensures.bytes

pub returns-in-None : goal.returns-in-None
returns-in-None c =
    instead c.push_str.result (string_bytes c.push_str.new.self) (string_bytes c.args.text.now) (least_field None) (least_field c.args.least)
    (sym (ap (λ (copies : Option ℕ). least_field copies) c.in-None.is))
    (written c.push_str.result (string_bytes c.push_str.new.self) (string_bytes c.args.text.now ++ least_field None) (string_bytes c.args.text.now)
    c.push_str.ensures.bytes)
