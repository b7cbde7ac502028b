use Rattle.std.proofs.Common.{string_bytes, arith, rules, ap, sym, subst, List, ℕ, ◌++◌}
use Rattle.reh_play.specs.Players.{setting_by}
use Rattle.reh_play.specs.Turns.{player, IsAt}
use Rattle.reh_lines.proofs.Gathering.{grows_on}
use Rattle.reh_play.proofs.Steps.{none_left, is_at_next, stops_wanting, stops_lost}
use Rattle.reh_play.proofs.plays.answer_lines.Goals as goal

pub returns-in-Err-clause-err : goal.returns-in-Err-clause-err
returns-in-Err-clause-err g c =
    rw c.from.ensures (λ all rest start first at.
    stops_wanting
    (setting_by g.C.Counter.goes g.C.Counter.scene g.P.Printer.prints c.args.tools.now.names.now) _ _ _ _ c.loop-rest.number
    c.in-Err.field-0.fault _ _ _ _ _ (c.loop-rest.invariant.at all rest start first at)
    (ap (λ (ls : List (List ℕ)). ls ++ rest) c.first_line.ensures.lines) c.in-Err.ensures.err
    c.in-Err.ensures.wanted)

pub returns-in-Err-write_all-clause-err : goal.returns-in-Err-write_all-clause-err
returns-in-Err-write_all-clause-err g c = λ all rest start first at.
    stops_lost (setting_by g.C.Counter.goes g.C.Counter.scene g.P.Printer.prints c.args.tools.now.names.now) _ _ _ _
    (string_bytes c.answer_line.new.text) c.loop-rest.number _ _ _ _ _ _ _ _
    (c.loop-rest.invariant.at all rest start first at)
    (ap (λ (ls : List (List ℕ)). ls ++ rest) c.first_line.ensures.lines) c.in-Ok.ensures.ok
    (rw c.as_bytes.ensures.value at c.in-Err-write_all.ensures.part)

pub loop-rest-preserved : goal.loop-rest-preserved
loop-rest-preserved g c = record {
  may = c.in-Ok.ensures.may;
  at = λ all rest start first at.
      is_at_next (setting_by g.C.Counter.goes g.C.Counter.scene g.P.Printer.prints c.args.tools.now.names.now) _ _ _ _
      (string_bytes c.answer_line.new.text) c.loop-rest.number _ _ _ _ _ _
      (c.loop-rest.invariant.at all rest start first at)
      (ap (λ (ls : List (List ℕ)). ls ++ rest) c.first_line.ensures.lines) c.in-Ok.ensures.ok
      (rw c.as_bytes.ensures.value at c.in_default.ensures.ok);
  few = omega arith;
  seen = grows_on _ _ _ c.loop-rest.invariant.seen c.write_all.ensures.seen;
  fine = search rules;
}

pub returns-clause-ok : goal.returns-clause-ok
returns-clause-ok g c = λ all rest start first at.
    subst (λ (ls : List (List ℕ)). IsAt (setting_by g.C.Counter.goes g.C.Counter.scene g.P.Printer.prints c.args.tools.now.names.now) all
    (ls ++ rest) c.loop-rest.number start (player c.loop-rest.counter c.loop-rest.seat c.loop-rest.hand) first
    (g.W.TextOut.contents c.loop-rest.writer))
    (none_left c.loop-rest.rest.now (sym c.loop-rest-test.ensures)) (c.loop-rest.invariant.at all rest start first at)

pub returns-in-Err-write_all-clause-seen : goal.returns-in-Err-write_all-clause-seen
returns-in-Err-write_all-clause-seen g c = grows_on _ _ _ c.loop-rest.invariant.seen c.write_all.ensures.seen
