use Rattle.std.proofs.Common.{◌≡◌, ◌∙◌, ℕ, Bool, ap, sym}
use Rattle.reh_census.specs.Answers.{numbers_on}
use Rattle.reh_census.specs.Bookies.{bookies_of, is_flagged}
use Rattle.reh_census.specs.Counting.{counting_in, not_judged}
use Rattle.reh_census.specs.declared.answers.Numbers.{Numbers}
use Rattle.reh_waves.specs.Near.{IsLocal}
use Rattle.reh_waves.proofs.NearLaws.{local-by, near-numbers}
use Rattle.reh_waves.proofs.near.numbers_near.Goals as goal

pub returns-then-is_local : goal.returns-then-is_local
returns-then-is_local c =
    let s : ℕ → Bool = is_flagged c.args.stopped.now in
    let local : IsLocal c.args.census.now (bookies_of c.args.bookies.now) c.args.question.now s =
    local-by c.args.census.now c.args.bookies.now c.args.question.now c.args.largest.tail c.args.largest.ensemble s c.requires.largest
    (sym c.is_local.ensures ∙ c.if-is_local.true) in
    let same : c.numbers_of-numbers.result
    ≡ numbers_on (counting_in c.args.census.now) (bookies_of c.args.bookies.now) c.args.question.now (not_judged c.args.near.now.judged) s =
    c.numbers_of-numbers.ensures.census
    ∙ near-numbers c.args.census.now c.args.near.now (bookies_of c.args.bookies.now) c.args.question.now (not_judged c.args.near.now.judged) s
    c.requires.enough local c.requires.well_formed in
    λ i. record {
      readable = (ap (λ (n : Numbers). n.readable) same) i;
      kept = (ap (λ (n : Numbers). n.kept) same) i;
      recoverable = (ap (λ (n : Numbers). n.recoverable) same) i;
      writable = (ap (λ (n : Numbers). n.writable) same) i;
      replaceable = (ap (λ (n : Numbers). n.replaceable) same) i;
      disks = (ap (λ (n : Numbers). n.disks) same) i;
      not_judged = c.not_judged.ensures i;
    }
