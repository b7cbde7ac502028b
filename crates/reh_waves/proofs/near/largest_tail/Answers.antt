use Rattle.std.proofs.Common.{◌≤◌, All, List, ap, subst, arith}
use Rattle.std.proofs.lemmas.List.{take_all}
use Rattle.std.proofs.lemmas.List.Elements.{All-more, All-weaker}
use Rattle.reh_census.specs.declared.censuses.CountedTail.{CountedTail}
use Rattle.reh_waves.proofs.near.largest_tail.Goals as goal

pub loop-counted-preserved : goal.loop-counted-preserved
loop-counted-preserved c =
    All-more (λ (t : CountedTail). t.tail.size ≤ c.larger-largest.result) c.args.tails.now c.loop-counted.counted-index c.counted-item.result
    c.loop-counted-test.true
    (All-weaker (λ (t : CountedTail). t.tail.size ≤ c.loop-counted.largest) (λ (t : CountedTail). t.tail.size ≤ c.larger-largest.result)
    (λ t is. omega (arith, is, c.larger-largest.ensures.one)) _ c.loop-counted.invariant)
    (omega (arith, c.larger-largest.ensures.other, ap (λ (t : CountedTail). t.tail.size) c.counted-item.is))

pub returns : goal.returns
returns c =
    subst (λ (ts : List CountedTail). All (λ t. t.tail.size ≤ c.loop-counted.largest) ts)
    (take_all c.loop-counted.counted-index c.args.tails.now c.loop-counted-test.false) c.loop-counted.invariant
