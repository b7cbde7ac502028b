use Rattle.std.proofs.Common.{arith, refl, subst, All, List}
use Rattle.std.proofs.lemmas.List.{take_all}
use Rattle.std.proofs.lemmas.List.Elements.{All-more}
use Rattle.reh_census.specs.declared.ledgers.Fragment.{Fragment}
use Rattle.reh_census.specs.Ledgers.{IsFragment}
use Rattle.reh_census.proofs.ledgers.are_fragments.Goals as goal

pub loop-fragment-preserved : goal.loop-fragment-preserved
loop-fragment-preserved c =
    All-more (IsFragment c.args.size) c.args.fragments.now c.loop-fragment.fragment-index c.fragment-item.result
    c.loop-fragment-test.true c.loop-fragment.invariant
    (subst (λ (f : Fragment). IsFragment c.args.size f) c.fragment-item.is (c.if-not-is_fragment.ensures.0 refl))

pub returns : goal.returns
returns c =
    let all =
    subst (λ (fs : List Fragment). All (IsFragment c.args.size) fs)
    (take_all c.loop-fragment.fragment-index c.args.fragments.now (omega (arith, c.loop-fragment-test.false)))
    c.loop-fragment.invariant in
    (λ yes. all, λ told. refl)
