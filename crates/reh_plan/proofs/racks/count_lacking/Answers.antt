-- Where no racks are asked for, none are lacking.
use Rattle.std.proofs.Common.{◌≡◌, ◌∙◌, ◌<◌, ◌≤◌, ap, arith, cond, false, subst, sym, true, map, min, nat_lt, slice_index, Bool, ℕ}
use Rattle.std.proofs.lemmas.Bool.{le-ltb, lt-ltb}
use Rattle.reh_model.specs.Metadata.{Metadata}
use Rattle.reh_model.specs.Striping.{range, write_set}
use Rattle.reh_plan.specs.Racks.{least_racks}
use Rattle.reh_plan.proofs.RacksLaws.{count_more, none_lacking}
use Rattle.reh_plan.proofs.racks.count_lacking.Goals as goal
use Rattle.reh_plan.proofs.racks.count_lacking.Goals.{then-racks_at-wanted, else-racks_at-wanted}

pub returns-then-wanted-eq0 : goal.returns-then-wanted-eq0
returns-then-wanted-eq0 c =
    let m : Metadata = c.args.metadata.now in
    let none : min c.args.least m.write_quorum ≡ 0 =
    ap (min c.args.least) (sym c.write_quorum.ensures) ∙ sym c.min-wanted.ensures ∙ c.if-wanted-eq0.true in
    sym
    (none_lacking (λ e. least_racks (map (slice_index c.args.racks.now) (write_set e m.size m.write_quorum)))
    (min c.args.least m.write_quorum) none (range 0 m.size))

pub loop-entry-preserved : goal.loop-entry-preserved
loop-entry-preserved c =
    let m : Metadata = c.args.metadata.now in
    let k : ℕ = c.loop-entry.entry in
    let lacks : ℕ → Bool = λ e. nat_lt (least_racks (map (slice_index c.args.racks.now) (write_set e m.size m.write_quorum)))
    (min c.args.least m.write_quorum) in
    let wanted : c.min-wanted.result ≡ min c.args.least m.write_quorum =
    c.min-wanted.ensures ∙ ap (min c.args.least) c.write_quorum.ensures in
    elim c.if-racks_at-wanted.branch [
      | then-racks_at-wanted w ↦
          let test : lacks k ≡ true = lt-ltb _ _ (subst (λ n. n < min c.args.least m.write_quorum) c.racks_at.ensures
          (subst (λ n. c.racks_at.result < n) wanted w.if-racks_at-wanted.true)) in
          record {
            counted = omega (arith, w.count-is, c.loop-entry.invariant.counted, count_more lacks k, ap (λ b. cond {A = ℕ} b 1 0) test);
            within = omega (arith, w.count-is, c.loop-entry.invariant.within);
          }
      | else-racks_at-wanted w ↦
          let test : lacks k ≡ false = le-ltb _ _ (subst (λ n. min c.args.least m.write_quorum ≤ n) c.racks_at.ensures
          (subst (λ n. n ≤ c.racks_at.result) wanted w.if-racks_at-wanted.false)) in
          record {
            counted = omega (arith, w.count-is, c.loop-entry.invariant.counted, count_more lacks k, ap (λ b. cond {A = ℕ} b 1 0) test);
            within = omega (arith, w.count-is, c.loop-entry.invariant.within);
          }
    ]
