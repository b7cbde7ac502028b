-- Numbers from 0 on, and one more.
use Rattle.std.proofs.Common.{◌≡◌, ℕ, ◌+◌, ◌-◌, ◌++◌, ◌∷◌, [], ap, ◌∙◌, arith}
use Rattle.std.specs.List.{range_with_len}
use Rattle.reh_census.proofs.RangeLaws.{range-append}
use Rattle.reh_census.specs.Striping.{range}

pub range-more : (n : ℕ) → range 0 (n + 1) ≡ range 0 n ++ n ∷ []
range-more n =
    let long : n + 1 - 0 ≡ (n - 0) + 1 = omega arith in
    let last : 0 + (n - 0) ≡ n = omega arith in
    ap (λ k. range_with_len 0 k) long ∙ range-append 0 (n - 0) 1
    ∙ ap (λ k. range_with_len 0 (n - 0) ++ k ∷ []) last
