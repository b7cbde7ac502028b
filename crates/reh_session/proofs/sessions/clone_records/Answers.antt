-- A copied record is the next of the list.
use Rattle.std.proofs.Common.{◌≡◌, ◌≤◌, ◌<◌, ◌∙◌, ap, sym, subst, ℕ, List, [], ◌∷◌, ◌++◌, length, take, get_or}
use Rattle.std.proofs.lemmas.List.{take_all, take_more}
use Rattle.reh_model.specs.Places.{Change}
use Rattle.reh_session.proofs.sessions.clone_records.Goals as goal

pub loop-changes-preserved : goal.loop-changes-preserved
loop-changes-preserved c =
    let items : List (List Change) = c.args.records.now.items in
    let i : ℕ = c.loop-changes.changes-index in
    let seen : c.deref-changes-items.result.now ≡ items = c.deref-changes-items.ensures.value in
    c.in_ok-push.ensures.items
    ∙ ap (λ (rs : List (List Change)). rs ++ c.in_ok-clone_in.field-0 ∷ []) c.loop-changes.invariant
    ∙ ap (λ (r : List Change). take i items ++ r ∷ []) (c.in_ok-clone_in.ensures ∙ c.changes-item.is
    ∙ ap (λ (rs : List (List Change)). get_or rs i c.changes-item.result) seen)
    ∙ sym (take_more items i c.changes-item.result
    (subst (λ (rs : List (List Change)). i < length rs) seen c.loop-changes-test.true))

pub returns : goal.returns
returns c =
    let i : ℕ = c.loop-changes.changes-index in
    c.loop-changes.invariant
    ∙ take_all i c.args.records.now.items
    (subst (λ (rs : List (List Change)). length rs ≤ i) c.deref-changes-items.ensures.value c.loop-changes-test.false)
