-- The comment comes where the script is full.
use Rattle.std.proofs.Common.{◌∙◌, [], ◌∷◌, ◌++◌, Bool, List, ℕ, ap, sym}
use Rattle.reh_plan.specs.Plans.{Draft, with_full}
use Rattle.reh_plan.proofs.plans.Plan.tell_full.Goals as goal

pub returns-in_ok-remark : goal.returns-in_ok-remark
returns-in_ok-remark c =
    let d : Draft = c.args.self.now in
    c.in_ok-remark.ensures
    ∙ ap (λ (line : List ℕ). record d { lines = d.lines ++ line ∷ [] }) c.as_bytes.ensures.value
    ∙ ap (λ (full : Bool). with_full full d) (sym c.if-full.true)
