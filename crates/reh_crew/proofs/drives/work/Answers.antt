-- An aim of the worker's own, or another worker's.
use Rattle.std.proofs.Common.{◌≡◌, arith, false, true}
use Rattle.std.specs.Prelude.{◌%◌, ◌==◌}
use Rattle.std.proofs.lemmas.Bool.Decides.{nat_tests}
use Rattle.reh_crew.proofs.GainLaws.{is_on_other, is_on_own}
use Rattle.reh_crew.proofs.drives.work.Goals.{
  else-place-count-via-then-place-count+else-not-attend,
  else-place-count-via-else-place-count,
}
use Rattle.reh_crew.proofs.drives.work.Goals as goal

pub loop-place-preserved : goal.loop-place-preserved
loop-place-preserved g c =
    elim c.else-place-count.branch [
      | else-place-count-via-then-place-count+else-not-attend w ↦
          let own : ((c.loop-place.place % c.args.count) == c.args.worker) ≡ true =
          grind (arith, nat_tests, w.if-place-count.true) in
          let goes_on : w.attend.result ≡ true = grind (arith, nat_tests, w.if-not-attend.false) in
          rw (w.counter-is, w.seat-is) (record {
            may = w.attend.ensures.may;
            on = is_on_own g.C.Counter.goes (g.S.Scanner.scans c.args.scanner.now) c.args.count c.args.worker
                c.args.aims.now c.loop-place.place c.index-aims-place.result w.attend.result _ _ _
                c.loop-place-test.true c.index-aims-place.is own c.loop-place.invariant.on goes_on
                w.attend.ensures.attends;
          })
      | else-place-count-via-else-place-count w ↦
          let other : ((c.loop-place.place % c.args.count) == c.args.worker) ≡ false =
          grind (arith, nat_tests, w.if-place-count.false) in
          rw (w.counter-is, w.seat-is) (record {
            may = c.loop-place.invariant.may;
            on = is_on_other g.C.Counter.goes (g.S.Scanner.scans c.args.scanner.now) c.args.count c.args.worker
                c.args.aims.now c.loop-place.place c.index-aims-place.result _ _ c.loop-place-test.true
                c.index-aims-place.is other c.loop-place.invariant.on;
          })
    ]
