-- The first that names none, or no word.
use Rattle.std.proofs.Common.{◌∙◌, ap, is_some, not, sym, ◌||◌}
use Rattle.std.proofs.lemmas.List.Folds.{list_any_more}
use Rattle.reh_model.specs.Cluster.{bookie_named}
use Rattle.reh_plan.proofs.PlaceLaws.{position_here, position_none}
use Rattle.reh_plan.proofs.named.first_unknown.Goals as goal

pub returns-then-not-has : goal.returns-then-not-has
returns-then-not-has c =
    sym (position_here (λ word. not (is_some (bookie_named c.args.names.now word.now))) c.args.words.now
    c.loop-number.number _ c.loop-number-test.true c.loop-number.invariant
    (ap not (sym c.has.ensures ∙ c.if-not-has.true)))

pub loop-number-preserved : goal.loop-number-preserved
loop-number-preserved c =
    let test = ap not (sym c.has.ensures ∙ c.if-not-has.false) in
    list_any_more (λ word. not (is_some (bookie_named c.args.names.now word.now))) c.args.words.now c.loop-number.number _
    c.loop-number-test.true
    ∙ (λ i. c.loop-number.invariant i || test i)

pub returns : goal.returns
returns c =
    sym (position_none (λ word. not (is_some (bookie_named c.args.names.now word.now))) c.args.words.now
    c.loop-number.number c.loop-number-test.false c.loop-number.invariant)
