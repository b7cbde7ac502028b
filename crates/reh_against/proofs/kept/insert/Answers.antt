-- They stand in their order.
use Rattle.std.proofs.Common.{◌≡◌, ◌∙◌, rules}
use Rattle.std.specs.Ordering.{is_lt}
use Rattle.std.proofs.lemmas.List.Sorted.{answers_always}
use Rattle.reh_against.specs.Weighed.{kept_before}
use Rattle.reh_against.proofs.WorstLaws.{found_cmp, kept-orders, same-order}
use Rattle.reh_against.proofs.kept.insert.Goals as goal

pub returns-clause-sorted : goal.returns-clause-sorted
returns-clause-sorted c =
    c.in_ok-sort_by.ensures.sorted kept_before kept-orders
    (answers_always _ _ _ (λ f a r g h.
    let is : is_lt r ≡ is_lt (found_cmp a.0.now.found a.1.0.now.found) = search rules in
    is ∙ same-order a.0.now.found a.1.0.now.found))
