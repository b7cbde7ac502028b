use Rattle.std.proofs.Common.{◌≡◌, ◌∙◌, ◌+◌, ◌-◌, ◌++◌, ◌∷◌, [], ℕ, ap, sym, arith}
use Rattle.std.specs.List.{range_with_len}
use Rattle.reh_census.proofs.RangeLaws.{range-append}
use Rattle.reh_waves.proofs.orders.numbers_of.Goals as goal

pub loop-number-preserved : goal.loop-number-preserved
loop-number-preserved c =
    let long : (c.loop-number.number - 0) + 1 ≡ c.loop-number.number + 1 - 0 = omega arith in
    let at : c.loop-number.number ≡ 0 + (c.loop-number.number - 0) = omega arith in
    c.in_ok-push.ensures.items
    ∙ (λ i. c.loop-number.invariant i ++ at i ∷ [])
    ∙ sym (range-append 0 (c.loop-number.number - 0) 1)
    ∙ ap (λ (n : ℕ). range_with_len 0 n) long
