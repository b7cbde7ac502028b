use Rattle.std.proofs.Common.{◌≡◌, rules, of_calls, subst, Bool}
use Rattle.std.specs.List.{IsAllAdjacentAnswer}
use Rattle.std.proofs.lemmas.Fn.{always_returns_same}
use Rattle.reh_cut.proofs.RangeLaws.{are_next, in-order}
use Rattle.reh_cut.proofs.ranges.are_in_order.Goals as goal

pub returns : goal.returns
returns c = λ is.
    in-order c.args.ranges.now
    (subst (λ (b : Bool). IsAllAdjacentAnswer (λ x y r. r ≡ are_next x y) c.args.ranges.now b) is
    (c.is_sorted_by.ensures.cases are_next (always_returns_same _ _ _ (λ a r f k. search (rules, of_calls)))))
