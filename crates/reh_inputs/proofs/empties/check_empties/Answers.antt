-- One holding more says nothing of an empty bookie.
use Rattle.std.proofs.Common.{◌≡◌, ◌∙◌, All, List, ap, false, subst, sym}
use Rattle.std.proofs.lemmas.List.{take_all}
use Rattle.std.proofs.lemmas.List.Elements.{All-more}
use Rattle.reh_picture.specs.Contents.{Holding}
use Rattle.reh_inputs.specs.Empties.{holds_though_empty}
use Rattle.reh_inputs.proofs.empties.check_empties.Goals as goal

pub loop-holding-preserved : goal.loop-holding-preserved
loop-holding-preserved c =
    let is = holds_though_empty c.args.listed.now in
    All-more (λ h. is h ≡ false) c.deref-holding-items.result.now c.loop-holding.holding-index c.holding-item.result
    c.loop-holding-test.true c.loop-holding.invariant
    (ap is (sym c.holding-item.is) ∙ sym c.holds_though_empty.ensures ∙ c.if-holds_though_empty.false)

pub returns-clause-nothing : goal.returns-clause-nothing
returns-clause-nothing c =
    subst (λ (hs : List Holding). All (λ h. holds_though_empty c.args.listed.now h ≡ false) hs)
    (take_all c.loop-holding.holding-index c.deref-holding-items.result.now c.loop-holding-test.false
    ∙ c.deref-holding-items.ensures.value)
    c.loop-holding.invariant
