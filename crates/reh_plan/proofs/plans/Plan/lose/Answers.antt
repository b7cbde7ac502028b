-- A loss that is made is of this bookie, which was registered.
use Rattle.std.proofs.Common.{◌≡◌, ◌∙◌, true, ap, arith, sym}
use Rattle.reh_model.specs.Cluster.{Cluster, is_up}
use Rattle.reh_plan.proofs.PlanLaws.{loses_made}
use Rattle.reh_plan.proofs.plans.Plan.lose.Goals as goal

pub returns-in-Ok : goal.returns-in-Ok
returns-in-Ok c =
    let told : c.is_up.result ≡ true = grind (arith, c.if-not-is_up.false) in
    let up : is_up c.args.self.now.state c.args.bookie ≡ true =
    ap (λ (s : Cluster). is_up s c.args.bookie) (sym c.state.ensures) ∙ sym c.is_up.ensures ∙ told in
    loses_made c.args.self.now c.work.new.self c.args.bookie up c.in-Ok.ensures.ok
