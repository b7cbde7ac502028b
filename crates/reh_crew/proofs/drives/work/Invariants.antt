-- What is left of the share completes the work.
use Rattle.reh_crew.specs.Workers.{seated}
use Rattle.reh_crew.proofs.GainLaws.{IsOn}
use Rattle.reh_crew.proofs.drives.work.Given as goal

abbrev pub invariant-loop-place : goal.invariant-loop-place
invariant-loop-place g l = record {
  may : g.C.Counter.may l.counter l.seat;
  on : IsOn g.C.Counter.goes (g.S.Scanner.scans l.fn.scanner) l.fn.count l.fn.worker l.fn.aims l.place
      (seated l.fn.counter l.fn.seat) (seated l.counter l.seat);
}
