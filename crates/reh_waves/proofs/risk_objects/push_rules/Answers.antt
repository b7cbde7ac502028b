use Rattle.std.specs.Prelude.{◌++◌, codes, string_bytes}
use Rattle.std.specs.Fmt.{decimal}
use Rattle.reh_waves.specs.Json.{rules_json}
use Rattle.reh_waves.proofs.PushLaws.{instead}
use Rattle.reh_waves.proofs.TextLaws.{rules-parts}
use Rattle.reh_waves.proofs.risk_objects.push_rules.Goals as goal

pub returns : goal.returns
returns c =
    let numbers = c.args.numbers.now in
    instead c.write.result (string_bytes c.write.new.self) (string_bytes c.args.text.now) _ (codes "," ++ (rules_json numbers ++ codes "}"))
    (rules-parts (codes ",") (codes "\"rules\":{") (codes "\"readable\":") (codes "{\"no\":") (decimal numbers.readable.no) (codes ",\"unknown\":")
    (decimal numbers.readable.unknown) (codes "}") (codes ",\"kept\":") (decimal numbers.kept.no) (decimal numbers.kept.unknown)
    (codes ",\"recoverable\":") (decimal numbers.recoverable) (codes ",\"writable\":") (decimal numbers.writable) (codes ",\"replaceable\":")
    (decimal numbers.replaceable) (codes ",\"disks\":") (decimal numbers.disks))
    c.write.ensures.bytes
