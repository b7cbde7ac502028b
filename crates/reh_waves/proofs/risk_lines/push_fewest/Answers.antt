use Rattle.std.proofs.Common.{◌++◌, ℕ, Option, Some, None, ap, sym}
use Rattle.std.specs.Prelude.{string_bytes}
use Rattle.reh_waves.specs.Texts.{fewest_line}
use Rattle.reh_waves.proofs.PushLaws.{instead, written}
use Rattle.reh_waves.proofs.risk_lines.push_fewest.Goals as goal

pub returns-in-Some : goal.returns-in-Some
returns-in-Some c =
    instead c.write.result (string_bytes c.write.new.self) (string_bytes c.args.text.now) (fewest_line (Some c.in-Some.copies)) (fewest_line c.args.fewest)
    (sym (ap (λ (copies : Option ℕ). fewest_line copies) c.in-Some.is)) c.write.ensures.bytes

pub returns-in-None : goal.returns-in-None
returns-in-None c =
    instead c.push_str.result (string_bytes c.push_str.new.self) (string_bytes c.args.text.now) (fewest_line None) (fewest_line c.args.fewest)
    (sym (ap (λ (copies : Option ℕ). fewest_line copies) c.in-None.is))
    (written c.push_str.result (string_bytes c.push_str.new.self) (string_bytes c.args.text.now ++ fewest_line None) (string_bytes c.args.text.now)
    c.push_str.ensures.bytes)
