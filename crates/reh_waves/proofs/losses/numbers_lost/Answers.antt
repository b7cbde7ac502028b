use Rattle.std.proofs.Common.{◌∙◌, ℕ, Bool, ap, sym, true≢false}
use Rattle.reh_census.specs.Answers.{numbers_on}
use Rattle.reh_census.specs.Bookies.{bookies_of, is_flagged, none}
use Rattle.reh_census.specs.Counting.{counting_in, not_judged}
use Rattle.reh_waves.proofs.NearLaws.{none-zero}
use Rattle.reh_waves.proofs.losses.numbers_lost.Goals as goal

pub numbers_near-requires-clause-enough : goal.numbers_near-requires-clause-enough
numbers_near-requires-clause-enough c = record {
  base = none;
  among = is_flagged c.in_ok-stopped.stopped;
  near_is = c.in_ok-near.ensures;
  part = λ b inside. absurd (true≢false (sym inside));
  within = λ b inside. inside;
  zero = none-zero c.args.census.now (bookies_of c.args.bookies.now) c.args.question.now;
}

pub numbers_near-requires-clause-largest : goal.numbers_near-requires-clause-largest
numbers_near-requires-clause-largest c = c.requires.largest

pub numbers_near-requires-clause-well_formed : goal.numbers_near-requires-clause-well_formed
numbers_near-requires-clause-well_formed c = c.requires.well_formed

pub returns : goal.returns
returns c =
    c.numbers_near.ensures
    ∙ ap (λ (s : ℕ → Bool). numbers_on (counting_in c.args.census.now) (bookies_of c.args.bookies.now) c.args.question.now (not_judged c.args.census.now.judged) s)
    (λ i b. c.in_ok-stopped.ensures b i)
