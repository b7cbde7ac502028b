-- The worker may take places, and is the one that was chosen.
use Rattle.std.proofs.Common.{◌∙◌, ℕ, ap, subst}
use Rattle.reh_model.specs.Cluster.{Cluster}
use Rattle.reh_plan.specs.Fills.{IsChosen}
use Rattle.reh_plan.specs.Plans.{Draft, Works}
use Rattle.reh_plan.specs.Workers.{Rules, Workers, share_in, with_load}
use Rattle.reh_plan.proofs.FillLaws.{filled as is_filled}
use Rattle.reh_plan.proofs.PlanLaws.{works_done}
use Rattle.reh_plan.proofs.repairs.Repair.fill.Goals as goal

pub returns-clause-works : goal.returns-clause-works
returns-clause-works c =
    let rules : Rules = c.args.workers.now.rules in
    let d : Draft = c.args.plan.now in
    let may = c.in_ok-worker.ensures.may in
    let copied : Works rules d c.work.new.self =
    works_done rules d c.lock.new.plan c.work.new.self _ c.work.result c.work.ensures.ok c.work.ensures.err may
    (c.lock.ensures rules may) in
    works_done rules d c.work.new.self c.work-2.new.self _ c.work-2.result c.work-2.ensures.ok c.work-2.ensures.err may copied

pub returns-clause-filled : goal.returns-clause-filled
returns-clause-filled c =
    let w : Workers = c.args.workers.now in
    let place : ℕ = c.args.self.now.place in
    let worker : ℕ = c.in_ok-worker.worker in
    let f : ℕ = c.args.gap.now.fragment in
    let share = c.share-entries.ensures ∙ ap (λ (s : Cluster). share_in s place f) c.state-3.ensures in
    is_filled w c.add.new.self c.args.plan.now c.work.new.self c.work-2.new.self place c.args.self.now.ledger f c.args.gap.now.index
    worker c.version-version.result c.work-2.result
    (subst (λ (s : Cluster). IsChosen w s place f c.args.gap.now.index worker) c.state.ensures c.in_ok-worker.ensures.chosen)
    (c.add.ensures ∙ ap (with_load w worker) share) c.work-2.ensures.ok
