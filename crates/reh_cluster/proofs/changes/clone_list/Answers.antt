-- A copied change is the next of the list.
use Rattle.std.proofs.Common.{◌≡◌, ◌≤◌, ◌<◌, ◌∙◌, ap, sym, subst, ℕ, List, [], ◌∷◌, ◌++◌, length, take, get_or}
use Rattle.std.proofs.lemmas.List.{take_all, take_more}
use Rattle.reh_model.specs.Places.{Change}
use Rattle.reh_cluster.proofs.changes.clone_list.Goals as goal

pub loop-change-preserved : goal.loop-change-preserved
loop-change-preserved c =
    let items : List Change = c.args.list.now.items in
    let i : ℕ = c.loop-change.change-index in
    let seen : c.deref-change-items.result.now ≡ items = c.deref-change-items.ensures.value in
    c.in_ok-push.ensures.items
    ∙ ap (λ (cs : List Change). cs ++ c.in_ok-clone_change.field-0 ∷ []) c.loop-change.invariant
    ∙ ap (λ (d : Change). take i items ++ d ∷ []) (c.in_ok-clone_change.ensures ∙ c.change-item.is
    ∙ ap (λ (cs : List Change). get_or cs i c.change-item.result) seen)
    ∙ sym (take_more items i c.change-item.result
    (subst (λ (cs : List Change). i < length cs) seen c.loop-change-test.true))

pub returns : goal.returns
returns c =
    let i : ℕ = c.loop-change.change-index in
    c.loop-change.invariant
    ∙ take_all i c.args.list.now.items
    (subst (λ (cs : List Change). length cs ≤ i) c.deref-change-items.ensures.value c.loop-change-test.false)
