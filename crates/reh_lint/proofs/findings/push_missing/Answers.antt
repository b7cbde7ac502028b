use Rattle.std.proofs.Common.{◌≡◌, ◌∙◌, ◌++◌, ap, [], List, ℕ, Option, Some, string_bytes, subst}
use Rattle.std.specs.Prelude.{OnOk}
use Rattle.std.specs.Option.{option_map_or}
use Rattle.reh_near.specs.Near.{near_ids_text}
use Rattle.reh_lint.specs.Ledgers.{ids_of, missing_ledger}
use Rattle.reh_lint.specs.Lints.{absent_text, missing_text}
use Rattle.reh_lint.proofs.findings.push_missing.Goals as goal

pub returns-in_ok-near-in-Some : goal.returns-in_ok-near-in-Some
returns-in_ok-near-in-Some c =
    let found : Some c.ledger.inside.0 ≡ missing_ledger c.args.known.now.state.now c.args.command.now = ap Some c.ledger.view_is ∙ c.in-Some.ensures in
    let near : c.as_str.result.now ≡ near_ids_text (ids_of c.args.known.now.state.now) c.ledger.inside.0 = c.as_str.ensures.value ∙ c.in_ok-near-in-Some.ensures in
    let told : OnOk c.push_absent.result (string_bytes c.push_absent.new.text ≡ string_bytes c.args.text.now
    ++ missing_text c.args.path.now c.args.number (ids_of c.args.known.now.state.now) c.ledger.inside.0) =
    subst (λ (t : List ℕ). OnOk c.push_absent.result (string_bytes c.push_absent.new.text ≡ string_bytes c.args.text.now
    ++ absent_text c.args.path.now c.args.number c.ledger.inside.0 t)) near c.push_absent.ensures in
    subst (λ (l : Option ℕ). OnOk c.push_absent.result (string_bytes c.push_absent.new.text ≡ string_bytes c.args.text.now
    ++ option_map_or (missing_text c.args.path.now c.args.number (ids_of c.args.known.now.state.now)) l []))
    found told
