use Rattle.std.proofs.Common.{◌∙◌, ◌&&◌, ℕ, cond, List, ap, arith, take_all}
use Rattle.std.proofs.lemmas.List.Sums.{sum_by_more}
use Rattle.reh_census.specs.Bookies.{is_flagged}
use Rattle.reh_census.specs.Counting.{count_tails_in}
use Rattle.reh_census.specs.declared.censuses.CountedTail.{CountedTail}
use Rattle.reh_waves.specs.Near.{names_tail}
use Rattle.reh_waves.proofs.near.tails_near.Goals as goal

pub loop-counted-preserved : goal.loop-counted-preserved
loop-counted-preserved c = record {
  counts = λ test.
      let value : CountedTail → ℕ = λ x. cond (test x.tail && names_tail (is_flagged c.args.among.now) x.tail) x.count 0 in
      omega (
        arith,
        c.in_ok-add_near.ensures.counts test,
        c.loop-counted.invariant.counts test,
        ap value c.counted-item.is,
        sum_by_more value c.args.tails.now c.loop-counted.counted-index c.counted-item.result c.loop-counted-test.true,
      );
  well_formed = c.in_ok-add_near.ensures.well_formed;
}

pub returns-clause-counts : goal.returns-clause-counts
returns-clause-counts c test =
    c.loop-counted.invariant.counts test
    ∙ ap (λ (tails : List CountedTail). count_tails_in tails (λ tail. test tail && names_tail (is_flagged c.args.among.now) tail))
    (take_all c.loop-counted.counted-index c.args.tails.now c.loop-counted-test.false)
