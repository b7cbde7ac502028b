-- Nothing is printed, and the first is among those that are left.
use Rattle.std.proofs.Common.{◌≡◌, drop, string_bytes}
use Rattle.std.specs.Prelude.{find}
use Rattle.reh_census.specs.Bookies.{is_flagged}
use Rattle.reh_against.specs.Causes.{some_speaks}
use Rattle.reh_against.proofs.entries.push_first.Given as goal

abbrev pub invariant-loop-counted : goal.invariant-loop-counted
invariant-loop-counted l = record {
  first :
      find (some_speaks l.stop.answer.now l.stop.question.now.keep (is_flagged l.stop.stopped.now)) (drop l.counted-index l.entries)
      ≡ find (some_speaks l.stop.answer.now l.stop.question.now.keep (is_flagged l.stop.stopped.now)) l.entries;
  text : string_bytes l.text ≡ string_bytes l.fn.text;
}
