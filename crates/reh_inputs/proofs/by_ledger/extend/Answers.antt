-- One holding more is there.
use Rattle.std.proofs.Common.{◌∙◌, ◌++◌, ◌∷◌, [], List, ap, sym, map, take, append_assoc}
use Rattle.std.specs.Borrow.{Bor}
use Rattle.std.proofs.lemmas.List.{map-append, take_more}
use Rattle.reh_picture.specs.Contents.{Holding}
use Rattle.reh_inputs.proofs.by_ledger.extend.Goals as goal

pub loop-holding-preserved : goal.loop-holding-preserved
loop-holding-preserved c =
    let now : Bor Holding → Holding = λ h. h.now in
    let before = map now c.args.held.now.items in
    let all = c.args.holdings.now in
    let k = c.loop-holding.holding-index in
    let one = c.holding-item.result in
    ap (map now) c.in_ok-push.ensures.items
    ∙ map-append now c.loop-holding.held.items _
    ∙ (λ i. c.loop-holding.invariant i ++ c.holding-item.is i ∷ [])
    ∙ append_assoc before (take k all) _
    ∙ sym (ap (λ (hs : List Holding). before ++ hs) (take_more all k one c.loop-holding-test.true))
