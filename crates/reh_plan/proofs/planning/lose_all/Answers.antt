-- A bookie more is lost, or isn't to be.
use Rattle.std.proofs.Common.{◌≡◌, ◌∙◌, ℕ, ◌+◌, length, ap, sym, subst, arith, true, false}
use Rattle.reh_types.specs.Sets as set
use Rattle.reh_model.specs.Cluster.{Cluster}
use Rattle.reh_model.specs.WellFormed.{IsWellFormed}
use Rattle.reh_plan.specs.Plans.{Draft, Loses, losses_of}
use Rattle.reh_plan.proofs.PlanLaws.{below, loses_next, loses_kept, loses_all}
use Rattle.reh_plan.proofs.planning.lose_all.Goals as goal
use Rattle.reh_plan.proofs.planning.lose_all.Goals.{then-contains+in_ok-lose, else-contains}

pub loop-number-preserved : goal.loop-number-preserved
loop-number-preserved c =
    let k : ℕ = c.loop-number.number in
    let s : Cluster = c.args.plan.now.state in
    elim c.if-contains.branch [
      | then-contains+in_ok-lose w ↦
          let in_lost : set.contains c.args.lost.now k ≡ true = sym c.contains.ensures ∙ w.if-contains.true in
          subst
          (λ (x : Draft).
          Loses c.args.plan.now (below c.args.lost.now (k + 1)) (losses_of s (set.contains c.args.lost.now) (k + 1)) x)
          (sym w.plan-is)
          (loses_next c.args.plan.now c.loop-number.plan w.lose.new.self c.args.lost.now k in_lost
          c.loop-number.invariant w.in_ok-lose.ensures)
      | else-contains w ↦
          let stays : set.contains c.args.lost.now k ≡ false = sym c.contains.ensures ∙ w.if-contains.false in
          subst
          (λ (x : Draft).
          Loses c.args.plan.now (below c.args.lost.now (k + 1)) (losses_of s (set.contains c.args.lost.now) (k + 1)) x)
          (sym w.plan-is)
          (loses_kept c.args.plan.now c.loop-number.plan c.args.lost.now k stays c.loop-number.invariant)
    ]

pub returns : goal.returns
returns c =
    let s : Cluster = c.args.plan.now.state in
    let names : length c.names.result.now ≡ length s.names =
    ap length (c.names.ensures.names ∙ ap (λ (s : Cluster). s.names) c.state.ensures) in
    let all : c.loop-number.number ≡ length s.names =
    omega (
      arith,
      names,
      c.len-count.ensures.count,
      c.len-count.ensures.limit,
      c.loop-number-test.false,
      c.loop-number.auto.number-end,
    ) in
    loses_all c.args.plan.now c.loop-number.plan c.args.lost.now
    (losses_of s (set.contains c.args.lost.now) (length s.names))
    (subst IsWellFormed c.state.ensures c.names.ensures.well_formed)
    (subst
    (λ k.
    Loses c.args.plan.now (below c.args.lost.now k) (losses_of s (set.contains c.args.lost.now) k) c.loop-number.plan)
    all c.loop-number.invariant)
