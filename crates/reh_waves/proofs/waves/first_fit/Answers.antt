use Rattle.std.proofs.Common.{◌≡◌, ◌∙◌, ℕ, Bool, ap, sym, inl, inr, arith}
use Rattle.std.specs.Prelude.{slice_index_or}
use Rattle.std.proofs.lemmas.Bool.{cases_lt}
use Rattle.std.proofs.lemmas.List.{get_or_default}
use Rattle.reh_census.specs.Bookies.{bookies_of}
use Rattle.reh_waves.specs.declared.waves.Round.{Round}
use Rattle.reh_waves.specs.Waves.{answer_in, joins}
use Rattle.reh_waves.proofs.PositionLaws.{position-found, position-missing}
use Rattle.reh_waves.proofs.waves.first_fit.Goals as goal

pub returns-then-branch : goal.returns-then-branch
returns-then-branch c =
    let p : Round → Bool =
    joins (answer_in c.args.census.now (bookies_of c.args.bookies.now) c.args.question.now) c.args.by_rack c.args.rack c.args.bookie in
    sym
    (position-found p c.args.rounds.now c.loop-number.number c.index-rounds-number.result c.loop-number-test.true
    (λ k below. c.loop-number.invariant k c.index-rounds-number.result below)
    (ap p (sym c.index-rounds-number.is) ∙ sym c.in_ok-fits.ensures ∙ c.if-branch.true))

pub loop-number-preserved : goal.loop-number-preserved
loop-number-preserved c k d below =
    let p : Round → Bool =
    joins (answer_in c.args.census.now (bookies_of c.args.bookies.now) c.args.question.now) c.args.by_rack c.args.rack c.args.bookie in
    elim (cases_lt k c.loop-number.number) [
      | inl before ↦ c.loop-number.invariant k d before
      | inr from ↦
          let at : k ≡ c.loop-number.number = omega (arith, below, from) in
          ap (λ (n : ℕ). p (slice_index_or c.args.rounds.now n d)) at
          ∙ ap p (get_or_default c.args.rounds.now c.loop-number.number d c.index-rounds-number.result c.loop-number-test.true)
          ∙ ap p (sym c.index-rounds-number.is) ∙ sym c.in_ok-fits.ensures ∙ c.if-branch.false
    ]

pub returns : goal.returns
returns c =
    let p : Round → Bool =
    joins (answer_in c.args.census.now (bookies_of c.args.bookies.now) c.args.question.now) c.args.by_rack c.args.rack c.args.bookie in
    sym
    (position-missing p c.args.rounds.now
    (λ k d below. c.loop-number.invariant k d (omega (arith, below, c.loop-number-test.false))))
