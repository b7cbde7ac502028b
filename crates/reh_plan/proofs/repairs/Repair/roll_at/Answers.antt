-- Writers put bookies into ensembles, and the bookie may take places.
use Rattle.std.proofs.Common.{◌∙◌, ℕ, ap, subst}
use Rattle.reh_model.specs.Cluster.{Cluster}
use Rattle.reh_plan.specs.Fills.{IsChosen}
use Rattle.reh_plan.specs.Workers.{Rules, Workers, last_in, share_to_roll, with_load}
use Rattle.reh_plan.proofs.FillLaws.{rolled as is_rolled}
use Rattle.reh_plan.proofs.PlanLaws.{both_true, works_done, works_none}
use Rattle.reh_plan.proofs.repairs.Repair.roll_at.Goals as goal

pub returns-clause-works : goal.returns-clause-works
returns-clause-works c =
    let rules : Rules = c.args.workers.now.rules in
    works_done rules c.args.plan.now c.args.plan.now c.work.new.self _ c.work.result c.work.ensures.ok c.work.ensures.err
    (both_true _ _ c.in_ok-bookie.ensures.may c.requires) (works_none rules c.args.plan.now)

pub returns-clause-rolled : goal.returns-clause-rolled
returns-clause-rolled c =
    let w : Workers = c.args.workers.now in
    let place : ℕ = c.args.self.now.place in
    let bookie : ℕ = c.in_ok-bookie.bookie in
    let last = c.in-Some.ensures ∙ ap (λ (s : Cluster). last_in s place) c.state.ensures in
    let share = c.share_to_roll.ensures ∙ ap (λ (s : Cluster). share_to_roll s place) c.state-3.ensures in
    is_rolled w c.add.new.self c.args.plan.now c.work.new.self place c.args.self.now.ledger c.args.index bookie c.work.result
    (subst (λ (f : ℕ). IsChosen w c.args.plan.now.state place f c.args.index bookie) last
    (subst (λ (s : Cluster). IsChosen w s place c.in-Some.last c.args.index bookie) c.state-2.ensures c.in_ok-bookie.ensures.chosen))
    (c.add.ensures ∙ ap (with_load w bookie) share) c.work.ensures.ok
