-- One bookie more is counted where it is registered.
use Rattle.std.proofs.Common.{◌≡◌, ℕ, Bool, cond, sym, ap, ◌∙◌, arith}
use Rattle.reh_model.specs.Cluster.{is_up}
use Rattle.reh_picture.proofs.CountsLemmas.{sum_by-range_more}
use Rattle.reh_picture.proofs.counts.count_up.Goals as goal
use Rattle.reh_picture.proofs.counts.count_up.Goals.{then-is_up, else-is_up}

-- how much a bookie counts
abbrev one : Bool → ℕ
one up = cond up 1 0

pub loop-i-preserved : goal.loop-i-preserved
loop-i-preserved c =
    let is_here = is_up c.args.state.now c.loop-i.i in
    let more = sum_by-range_more (λ (b : ℕ). one (is_up c.args.state.now b)) c.loop-i.i in
    elim c.if-is_up.branch [
      | then-is_up w ↦
          let is : one is_here ≡ 1 = ap one (sym c.is_up.ensures ∙ w.if-is_up.true) in
          record {
            count = omega (arith, w.up-is, c.loop-i.invariant.count, more, is);
            few = omega (arith, w.up-is, c.loop-i.invariant.few);
          }
      | else-is_up w ↦
          let is : one is_here ≡ 0 = ap one (sym c.is_up.ensures ∙ w.if-is_up.false) in
          record {
            count = omega (arith, w.up-is, c.loop-i.invariant.count, more, is);
            few = omega (arith, w.up-is, c.loop-i.invariant.few);
          }
    ]
