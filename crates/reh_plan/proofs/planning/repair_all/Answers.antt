-- What the steps come to.
use Rattle.std.proofs.Common.{◌≡◌, ◌∙◌, List, ap, subst}
use Rattle.reh_plan.specs.Plans.{Draft, IsRepaired, Tells, Works}
use Rattle.reh_plan.specs.declared.reasons.Left.{Left}
use Rattle.reh_plan.specs.Takers.{AreWellTaken}
use Rattle.reh_plan.specs.Workers.{Rules, Workers, may_work, rules_by}
use Rattle.reh_plan.proofs.PlanLaws.{works_on, works_same}
use Rattle.reh_plan.proofs.PlannedLaws.{taken-told}
use Rattle.reh_plan.proofs.planning.repair_all.Goals as goal

pub returns-clause-repaired : goal.returns-clause-repaired
returns-clause-repaired c =
    let d : Draft = c.args.plan.now in
    let r : Draft = c.roll_all.new.plan in
    let p : Draft = c.publish.new.plan in
    let g : Draft = c.grant_all.new.plan in
    let w : Draft = c.work_all.new.plan in
    let k : Draft = c.check_takers.new.self in
    let n : Draft = c.tell_all.new.plan in
    let rules : Rules = c.in_ok-workers.workers.rules in
    let left : List Left = c.in_ok-left.left.items in
    let same = c.roll_all.ensures.rules in
    let granted : Works rules p g = subst (λ (x : Rules). Works x p g) same c.grant_all.ensures in
    let worked : Works rules g w = subst (λ (x : Rules). Works x g w) same c.work_all.ensures.works in
    subst (λ (x : Rules). IsRepaired x d left n) (ap (λ (x : Workers). x.rules) c.in_ok-workers.ensures) record {
      worked = k;
      works =
          works_same rules d w k c.check_takers.ensures.same
          (works_on rules d g w worked
          (works_on rules d p g granted (works_on rules d r p (c.publish.ensures rules) c.roll_all.ensures.works)));
      tells = subst (λ (x : Rules). Tells x k left n) (c.work_all.ensures.rules ∙ same) c.in_ok-left.ensures;
    }

-- Comments leave the events.
pub returns-clause-taken : goal.returns-clause-taken
returns-clause-taken c =
    let n : Draft = c.tell_all.new.plan in
    let rules : Rules = c.work_all.new.workers.rules in
    let same : rules ≡ rules_by c.args.allowed.now c.args.read_only.now c.args.writers_roll =
    c.work_all.ensures.rules ∙ c.roll_all.ensures.rules ∙ ap (λ (x : Workers). x.rules) c.in_ok-workers.ensures in
    subst (λ (x : Rules). AreWellTaken (may_work x) c.args.racks.now n.opening n.events) same
    (taken-told rules c.args.racks.now c.work_all.new.plan c.check_takers.new.self n c.in_ok-left.left.items
    c.check_takers.ensures.same c.in_ok-left.ensures c.in_ok-check_takers.ensures.taken)
