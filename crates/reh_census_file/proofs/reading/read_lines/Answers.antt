use Rattle.std.proofs.Common.{◌≡◌, ◌+◌, true, false, Result, sym, ap, subst, ◌∙◌, arith}
use Rattle.std.specs.Prelude.{codes}
use Rattle.std.specs.Str.{bytes_eq}
use Rattle.reh_census_file.specs.declared.faults.CensusFault.{CensusFault}
use Rattle.reh_census_file.specs.Drafts.{Draft, step}
use Rattle.reh_census_file.specs.Reading.{words_after}
use Rattle.reh_census_file.specs.Whole.{GivesAll, FailsAll, fault_at, body_at, parts_of}
use Rattle.reh_census_file.proofs.BodyLaws.{fails_at, body_at-end, body_at-more, body_at-cut, goes_on}
use Rattle.reh_census_file.proofs.reading.read_lines.Goals as goal

pub returns-then-eq : goal.returns-then-eq
returns-then-eq c =
    let first = c.first_word.result.0.now in
    let ends : bytes_eq first (codes "end") ≡ true = ap (bytes_eq first) (sym c.as_slice.ensures) ∙ sym c.eq.ensures ∙ c.if-eq.true in
    subst (λ (r : Result Draft CensusFault). GivesAll (λ (u : Unit {0}). c.loop-line.draft) c.check_end.result r)
    (sym (body_at-end c.loop-line.lines c.loop-line.draft (parts_of c.loop-line.left.now) (parts_of c.in-Some.rest.now) c.in-Some.line.now first (words_after c.first_word.result.1.now) c.in-Some.ensures.parts c.in-Some.ensures.some c.first_word.ensures ends)
    ∙ c.loop-line.invariant.goes_on) c.check_end.ensures

pub returns-in-Err : goal.returns-in-Err
returns-in-Err c =
    let first = c.first_word.result.0.now in
    let words = words_after c.first_word.result.1.now in
    let lines = c.loop-line.lines in
    let other : bytes_eq first (codes "end") ≡ false = ap (bytes_eq first) (sym c.as_slice.ensures) ∙ sym c.eq.ensures ∙ c.if-eq.false in
    let stops = fails_at (lines + 1) c.in-Err.stop (step c.loop-line.draft first words) (λ more. body_at (lines + 1) more (parts_of c.in-Some.rest.now)) c.in-Err.ensures in
    let there = subst (λ (r : Result Draft CensusFault). FailsAll (fault_at (lines + 1) c.in-Err.stop) r)
    (sym (body_at-more lines c.loop-line.draft (parts_of c.loop-line.left.now) (parts_of c.in-Some.rest.now) c.in-Some.line.now first words c.in-Some.ensures.parts c.in-Some.ensures.some c.first_word.ensures other)
    ∙ c.loop-line.invariant.goes_on) stops in
    subst (λ (f : CensusFault). FailsAll f (body_at 3 c.args.draft.now (parts_of c.args.text.now))) (sym c.fault_at.ensures) there

pub loop-line-preserved : goal.loop-line-preserved
loop-line-preserved c =
    let first = c.first_word.result.0.now in
    let words = words_after c.first_word.result.1.now in
    let other : bytes_eq first (codes "end") ≡ false = ap (bytes_eq first) (sym c.as_slice.ensures) ∙ sym c.eq.ensures ∙ c.if-eq.false in
    record {
      goes_on = goes_on c.loop-line.lines c.loop-line.draft c.take.new.self (parts_of c.loop-line.left.now) (parts_of c.in-Some.rest.now) c.in-Some.line.now first words (body_at 3 c.args.draft.now (parts_of c.args.text.now))
          c.in-Some.ensures.parts c.in-Some.ensures.some c.first_word.ensures other c.in_default-take.ensures c.loop-line.invariant.goes_on;
      few = omega (arith, c.in-Some.ensures.shorter, c.loop-line.invariant.few);
    }

pub returns : goal.returns
returns c =
    sym c.loop-line.invariant.goes_on ∙ body_at-cut c.loop-line.lines c.loop-line.draft (parts_of c.loop-line.left.now) c.loop-line.left.now c.in_default.ensures.parts
