use Rattle.std.proofs.Common.{◌≡◌, List, ℕ, string_bytes, subst}
use Rattle.std.specs.Prelude.{IfOk}
use Rattle.reh_near.specs.Near.{near_ids_text}
use Rattle.reh_lint.specs.Ledgers.{ids_of}
use Rattle.reh_lint.proofs.findings.Known.near_id.Goals as goal

pub returns : goal.returns
returns c =
    let ids : c.deref.result.now ≡ ids_of c.args.self.now.state.now = cc (c.deref.ensures.value, c.args.self.now.is_ids) in
    subst (λ (ids : List ℕ). IfOk c.near_ids.result (λ text. string_bytes text ≡ near_ids_text ids c.args.id)) ids c.near_ids.ensures
