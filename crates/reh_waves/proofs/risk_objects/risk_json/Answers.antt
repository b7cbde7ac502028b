use Rattle.std.proofs.Common.{◌∙◌, ◌++◌, ℕ, List, ap, string_bytes}
use Rattle.std.specs.Prelude.{codes}
use Rattle.reh_waves.specs.Json.{all_losses_json, fewest_json}
use Rattle.reh_waves.proofs.TextLaws.{three}
use Rattle.reh_waves.proofs.risk_objects.risk_json.Goals as goal

pub returns : goal.returns
returns c =
    let fewest : List ℕ = fewest_json c.args.risk.now in
    let losses : List ℕ = all_losses_json c.args.names.now c.args.racks.now c.args.risk.now in
    three (string_bytes c.new-text.result) (string_bytes c.push_both_fewest.new.text) (string_bytes c.push_all_losses.new.text)
    (string_bytes c.push_str.new.self) fewest losses (codes "}\n") c.in_ok-push_both_fewest.ensures c.in_ok-push_all_losses.ensures
    c.in_ok-push_str.ensures.bytes
    ∙ ap (λ (text : List ℕ). text ++ (fewest ++ (losses ++ codes "}\n"))) c.new-text.ensures.bytes
