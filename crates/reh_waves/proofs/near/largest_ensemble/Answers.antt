use Rattle.std.proofs.Common.{◌≤◌, ℕ, All, List, ap, subst, length, arith}
use Rattle.std.proofs.lemmas.List.{take_all}
use Rattle.std.proofs.lemmas.List.Elements.{All-more, All-weaker}
use Rattle.reh_census.specs.declared.censuses.CountedEnsemble.{CountedEnsemble}
use Rattle.reh_waves.proofs.near.largest_ensemble.Goals as goal

pub loop-counted-preserved : goal.loop-counted-preserved
loop-counted-preserved c =
    All-more (λ (e : CountedEnsemble). length e.members ≤ c.larger-largest.result) c.args.ensembles.now c.loop-counted.counted-index c.counted-item.result
    c.loop-counted-test.true
    (All-weaker (λ (e : CountedEnsemble). length e.members ≤ c.loop-counted.largest) (λ (e : CountedEnsemble). length e.members ≤ c.larger-largest.result)
    (λ e is. omega (arith, is, c.larger-largest.ensures.one)) _ c.loop-counted.invariant)
    (omega (arith, c.larger-largest.ensures.other, ap (λ (xs : List ℕ). length xs) c.as_slice.ensures, ap (λ (e : CountedEnsemble). length e.members) c.counted-item.is))

pub returns : goal.returns
returns c =
    subst (λ (es : List CountedEnsemble). All (λ e. length e.members ≤ c.loop-counted.largest) es)
    (take_all c.loop-counted.counted-index c.args.ensembles.now (omega (arith, c.loop-counted-test.false))) c.loop-counted.invariant
