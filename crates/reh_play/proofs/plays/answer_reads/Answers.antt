use Rattle.std.proofs.Common.{[], arith, rules, ap, subst, refl, inl, inr, None}
use Rattle.std.specs.Io.KnownBytes.{prepend_known}
use Rattle.reh_play.specs.Players.{setting_by}
use Rattle.reh_play.specs.declared.faults.PlayFault.TheVariants.{WriteFault, NoMemory}
use Rattle.reh_play.proofs.ReadLaws.{answered_to, stops_among, keeps_back, lacks_memory, holds_none}
use Rattle.reh_play.proofs.ReadLaws.{goes_out, out_grown, still_at}
use Rattle.reh_play.proofs.ReadLaws.{ends_failed, ends_long, stops_at_last, answered_last}
use Rattle.reh_play.proofs.ReadLaws.{keeps_last, ends_whole, lines_answered}
use Rattle.reh_lines.specs.Readings.{reads_past}
use Rattle.reh_lines.specs.declared.readings.Progress.{Progress}
use Rattle.reh_play.proofs.Steps.{is_at_start, is_at_kept}
use Rattle.reh_play.proofs.Turns.{if_err}
use Rattle.reh_lines.proofs.Standing.{Stands, count_within, end_calls, end_is, end_stands, lines_stand, stands_first, stands_on, still_whole, still_within}
use Rattle.reh_play.proofs.plays.answer_reads.Goals as goal

pub loop-read-init : goal.loop-read-init
loop-read-init g c = record {
  may = c.requires.may;
  at = is_at_start (setting_by g.C.Counter.goes g.C.Counter.scene g.P.Printer.prints c.args.tools.now.names.now) [] _ _;
  whole = refl;
  stands = stands_first c.args.script.items c.whole_lines.result.now _ _
      (rw c.deref.ensures.value at c.whole_lines.ensures) c.requires.reads;
  out = inl refl;
  few = c.requires.few;
  within = omega arith;
  count = omega arith;
  fine = c.requires.writes;
  end = λ is. cc;
  calls = omega arith;
}

pub returns-in_err-number-clause-err : goal.returns-in_err-number-clause-err
returns-in_err-number-clause-err g c =
    let place = setting_by g.C.Counter.goes g.C.Counter.scene g.P.Printer.prints c.args.tools.now.names.now in
    if_err _ _ c.in_err-number.field-0.0 c.from_residual.ensures.1
    (stops_among place c.loop-read.read _ c.in-Lines.end c.loop-read.done c.loop-read.number c.loop-read.script.items
    _ _ _ _ _ _ _ _ _ c.in-Lines.is c.loop-read.invariant.stands c.loop-read.invariant.whole
    c.loop-read.invariant.few c.loop-read.invariant.at (rw c.deref-in-Lines.ensures.value at c.in_err-number.ensures.err))

pub returns-in_err-number-clause-prompt : goal.returns-in_err-number-clause-prompt
returns-in_err-number-clause-prompt g c =
    out_grown _ _ _ _ _ _ _ _ c.loop-read.invariant.out c.answer_lines.ensures.seen

pub returns-in_err-flush-clause-prompt : goal.returns-in_err-flush-clause-prompt
returns-in_err-flush-clause-prompt g c =
    out_grown _ _ _ _ _ _ _ _ (out_grown _ _ _ _ _ _ _ _ c.loop-read.invariant.out c.answer_lines.ensures.seen)
    c.flush.ensures.grows

pub returns-in_err-flush-clause-err : goal.returns-in_err-flush-clause-err
returns-in_err-flush-clause-err g c =
    let place = setting_by g.C.Counter.goes g.C.Counter.scene g.P.Printer.prints c.args.tools.now.names.now in
    let lines = lines_stand c.loop-read.read c.in-Lines.end c.loop-read.done c.loop-read.script.items _ _ _
    c.in-Lines.is c.loop-read.invariant.stands in
    let at = answered_to place c.loop-read.read c.in-Lines.end c.loop-read.done c.loop-read.number _
    c.loop-read.script.items _ _ _ _ _ _ _ _ _ c.in-Lines.is c.loop-read.invariant.stands c.loop-read.invariant.whole
    c.loop-read.invariant.at (rw c.deref-in-Lines.ensures.value at c.in_ok-number.ensures.ok) in
    if_err _ _ (record { fault = WriteFault; ticket = None }) c.from_residual-in_err-flush.ensures.1
    (holds_none place _ _ _ _ _ _ _ _ _ _ (keeps_back place c.loop-read.script.items _ _ _ _ _ _ _ _ lines.3
    c.loop-read.invariant.few lines.4 (is_at_kept place _ _ _ _ _ _ _ _ at c.flush.ensures.bytes)))

pub returns-in_err-read-clause-err : goal.returns-in_err-read-clause-err
returns-in_err-read-clause-err g c =
    let place = setting_by g.C.Counter.goes g.C.Counter.scene g.P.Printer.prints c.args.tools.now.names.now in
    let lines = lines_stand c.loop-read.read c.in-Lines.end c.loop-read.done c.loop-read.script.items _ _ _
    c.in-Lines.is c.loop-read.invariant.stands in
    let at = answered_to place c.loop-read.read c.in-Lines.end c.loop-read.done c.loop-read.number _
    c.loop-read.script.items _ _ _ _ _ _ _ _ _ c.in-Lines.is c.loop-read.invariant.stands c.loop-read.invariant.whole
    c.loop-read.invariant.at (rw c.deref-in-Lines.ensures.value at c.in_ok-number.ensures.ok) in
    if_err _ _ (record { fault = NoMemory; ticket = None }) c.from_residual-in_err-read.ensures.1
    (holds_none place _ _ _ _ _ _ _ _ _ _ (lacks_memory place c.loop-read.script.items _ _ _ _ _ _ _ _ _ lines.3
    c.loop-read.invariant.few c.in_err-read.ensures.failed
    (is_at_kept place _ _ _ _ _ _ _ _ at c.flush.ensures.bytes)))

pub returns-in_err-read-clause-prompt : goal.returns-in_err-read-clause-prompt
returns-in_err-read-clause-prompt g c =
    let place = setting_by g.C.Counter.goes g.C.Counter.scene g.P.Printer.prints c.args.tools.now.names.now in
    let lines = lines_stand c.loop-read.read c.in-Lines.end c.loop-read.done c.loop-read.script.items _ _ _
    c.in-Lines.is c.loop-read.invariant.stands in
    let at = answered_to place c.loop-read.read c.in-Lines.end c.loop-read.done c.loop-read.number _
    c.loop-read.script.items _ _ _ _ _ _ _ _ _ c.in-Lines.is c.loop-read.invariant.stands c.loop-read.invariant.whole
    c.loop-read.invariant.at (rw c.deref-in-Lines.ensures.value at c.in_ok-number.ensures.ok) in
    let quiet = c.read_on.ensures.quiet in
    inr (goes_out place c.loop-read.script.items quiet.0 _ _ _ _ _ _ _ _ _ lines.3 quiet.1 quiet.2
    (is_at_kept place _ _ _ _ _ _ _ _ at c.flush.ensures.bytes) c.in_ok-flush.ensures.seen)

pub loop-read-preserved : goal.loop-read-preserved
loop-read-preserved g c =
    let place = setting_by g.C.Counter.goes g.C.Counter.scene g.P.Printer.prints c.args.tools.now.names.now in
    let lines = lines_stand c.loop-read.read c.in-Lines.end c.loop-read.done c.loop-read.script.items _ _ _
    c.in-Lines.is c.loop-read.invariant.stands in
    let at = answered_to place c.loop-read.read c.in-Lines.end c.loop-read.done c.loop-read.number _
    c.loop-read.script.items _ _ _ _ _ _ _ _ _ c.in-Lines.is c.loop-read.invariant.stands c.loop-read.invariant.whole
    c.loop-read.invariant.at (rw c.deref-in-Lines.ensures.value at c.in_ok-number.ensures.ok) in
    let quiet = c.read_on.ensures.quiet in
    record {
      may = search rules;
      at = still_at place c.in-Lines.end _ c.loop-read.script.items _ c.in_ok-read.read _ _ _ _ _ _ _ _ lines.1 lines.2
          c.in_ok-read.ensures.read at c.flush.ensures.bytes;
      whole = still_whole c.in-Lines.end c.loop-read.script.items _ c.in_ok-read.read _ _ _ lines.1 lines.2
          c.in_ok-read.ensures.read;
      stands = stands_on c.in_ok-read.read c.in-Lines.end c.loop-read.script.items _ _ _ _ _ lines.1 lines.2 lines.3
          c.in_ok-read.ensures.read;
      out = inr (goes_out place c.loop-read.script.items quiet.0 _ _ _ _ _ _ _ _ _ lines.3 quiet.1 quiet.2
          (is_at_kept place _ _ _ _ _ _ _ _ at c.flush.ensures.bytes) c.in_ok-flush.ensures.seen);
      few = c.read_on.ensures.few;
      within = still_within c.in-Lines.end c.loop-read.script.items _ c.in_ok-read.read _ _ _ lines.1
          c.in_ok-read.ensures.read;
      count = count_within c.loop-read.done c.in-Lines.end c.loop-read.number _ c.loop-read.script.items lines.0 lines.1
          c.loop-read.invariant.count (rw c.deref-in-Lines.ensures.value at c.in_ok-number.ensures.few);
      fine = search rules;
      end = c.in_ok-read.ensures.end;
      calls = omega (arith, c.loop-read.invariant.calls, ap reads_past c.in-Lines.is, c.in_ok-read.ensures.calls);
    }

pub returns-in-Failed-clause-err : goal.returns-in-Failed-clause-err
returns-in-Failed-clause-err g c =
    let place = setting_by g.C.Counter.goes g.C.Counter.scene g.P.Printer.prints c.args.tools.now.names.now in
    let ends = subst (λ (p : Progress). Stands p c.loop-read.done c.loop-read.script.items
    (prepend_known c.args.script.items (g.R.TextIn.remaining c.args.reader.now)) (g.R.TextIn.remaining c.loop-read.reader)
    (g.R.TextIn.has_failed c.loop-read.reader)) c.in-Failed.is c.loop-read.invariant.stands in
    rw c.of.ensures (holds_none place _ _ _ _ _ _ _ _ _ _ (ends_failed place c.loop-read.script.items _ _ _ _ _ _ _ _
    ends.1 c.loop-read.invariant.few ends.2
    (lines_answered place _ _ c.loop-read.script.items _ _ _ _ ends.0 c.loop-read.invariant.at)))

pub returns-in-TooLong-clause-err : goal.returns-in-TooLong-clause-err
returns-in-TooLong-clause-err g c =
    let place = setting_by g.C.Counter.goes g.C.Counter.scene g.P.Printer.prints c.args.tools.now.names.now in
    let ends = subst (λ (p : Progress). Stands p c.loop-read.done c.loop-read.script.items
    (prepend_known c.args.script.items (g.R.TextIn.remaining c.args.reader.now)) (g.R.TextIn.remaining c.loop-read.reader)
    (g.R.TextIn.has_failed c.loop-read.reader)) c.in-TooLong.is c.loop-read.invariant.stands in
    rw c.of-in-TooLong.ensures (holds_none place _ _ _ _ _ _ _ _ _ _ (ends_long place c.loop-read.script.items ends.0 _ _ _ _
    _ _ _ _ ends.2 ends.3 ends.4
    (lines_answered place _ _ c.loop-read.script.items _ _ _ _ ends.1 c.loop-read.invariant.at)))

pub returns-in_err-answer_lines-clause-err : goal.returns-in_err-answer_lines-clause-err
returns-in_err-answer_lines-clause-err g c =
    let place = setting_by g.C.Counter.goes g.C.Counter.scene g.P.Printer.prints c.args.tools.now.names.now in
    let ends = end_stands c.loop-read.read c.loop-read.done c.loop-read.script.items _ _ _ c.in_default.not-Lines
    c.in-Lines-read.is c.loop-read.invariant.stands in
    if_err _ _ c.in_err-answer_lines.field-0.0 c.from_residual-in_err-answer_lines.ensures.1
    (stops_at_last place _ c.loop-read.done c.loop-read.number c.loop-read.script.items _ _ _ _ _ _ _ _ _ ends
    c.loop-read.invariant.whole c.loop-read.invariant.few c.loop-read.invariant.at
    (rw c.deref-2.ensures.value at c.in_err-answer_lines.ensures.err))

pub returns-in_err-answer_lines-clause-prompt : goal.returns-in_err-answer_lines-clause-prompt
returns-in_err-answer_lines-clause-prompt g c =
    out_grown _ _ _ _ _ _ _ _ c.loop-read.invariant.out c.answer_lines-2.ensures.seen

pub returns-in_err-answer_lines-clause-calls : goal.returns-in_err-answer_lines-clause-calls
returns-in_err-answer_lines-clause-calls g c =
    omega (
      arith,
      c.loop-read.invariant.calls,
      c.loop-read.invariant.few,
      end_calls c.loop-read.read c.in_default.not-Lines c.in-Lines-read.is,
    )

pub returns-in_err-flush-2-clause-err : goal.returns-in_err-flush-2-clause-err
returns-in_err-flush-2-clause-err g c =
    let place = setting_by g.C.Counter.goes g.C.Counter.scene g.P.Printer.prints c.args.tools.now.names.now in
    let ends = end_stands c.loop-read.read c.loop-read.done c.loop-read.script.items _ _ _ c.in_default.not-Lines
    c.in-Lines-read.is c.loop-read.invariant.stands in
    let at = answered_last place c.loop-read.done c.loop-read.number _ c.loop-read.script.items _ _ _ _ _ _
    c.loop-read.invariant.whole c.loop-read.invariant.at (rw c.deref-2.ensures.value at c.in_ok-answer_lines.ensures.ok) in
    if_err _ _ (record { fault = WriteFault; ticket = None }) c.from_residual-in_err-flush-2.ensures.1
    (holds_none place _ _ _ _ _ _ _ _ _ _ (keeps_last place c.loop-read.script.items _ _ _ _ _ _ _ _ ends.1 ends.2
    c.loop-read.invariant.few ends.3 (is_at_kept place _ _ _ _ _ _ _ _ at c.flush-2.ensures.bytes)))

pub returns-in_err-flush-2-clause-prompt : goal.returns-in_err-flush-2-clause-prompt
returns-in_err-flush-2-clause-prompt g c =
    out_grown _ _ _ _ _ _ _ _ (out_grown _ _ _ _ _ _ _ _ c.loop-read.invariant.out c.answer_lines-2.ensures.seen)
    c.flush-2.ensures.grows

pub returns-in_err-flush-2-clause-calls : goal.returns-in_err-flush-2-clause-calls
returns-in_err-flush-2-clause-calls g c =
    omega (
      arith,
      c.loop-read.invariant.calls,
      c.loop-read.invariant.few,
      end_calls c.loop-read.read c.in_default.not-Lines c.in-Lines-read.is,
    )

pub returns-clause-ok : goal.returns-clause-ok
returns-clause-ok g c =
    let place = setting_by g.C.Counter.goes g.C.Counter.scene g.P.Printer.prints c.args.tools.now.names.now in
    let ends = end_stands c.loop-read.read c.loop-read.done c.loop-read.script.items _ _ _ c.in_default.not-Lines
    c.in-Lines-read.is c.loop-read.invariant.stands in
    let at = answered_last place c.loop-read.done c.loop-read.number _ c.loop-read.script.items _ _ _ _ _ _
    c.loop-read.invariant.whole c.loop-read.invariant.at (rw c.deref-2.ensures.value at c.in_ok-answer_lines.ensures.ok) in
    ends_whole place c.loop-read.script.items _ _ _ _ _ _ _ _ ends.1 ends.2 c.loop-read.invariant.few ends.3
    (is_at_kept place _ _ _ _ _ _ _ _ at c.flush-2.ensures.bytes)

pub returns-clause-ended : goal.returns-clause-ended
returns-clause-ended g c =
    let ends = end_stands c.loop-read.read c.loop-read.done c.loop-read.script.items _ _ _ c.in_default.not-Lines
    c.in-Lines-read.is c.loop-read.invariant.stands in
    ends.2

pub returns-clause-finished : goal.returns-clause-finished
returns-clause-finished g c = c.loop-read.invariant.end (end_is c.loop-read.read c.in_default.not-Lines c.in-Lines-read.is)

pub returns-clause-prompt : goal.returns-clause-prompt
returns-clause-prompt g c =
    out_grown _ _ _ _ _ _ _ _ (out_grown _ _ _ _ _ _ _ _ c.loop-read.invariant.out c.answer_lines-2.ensures.seen)
    c.flush-2.ensures.grows

pub returns-clause-calls : goal.returns-clause-calls
returns-clause-calls g c =
    omega (
      arith,
      c.loop-read.invariant.calls,
      c.loop-read.invariant.few,
      end_calls c.loop-read.read c.in_default.not-Lines c.in-Lines-read.is,
    )
