-- Four words at a time.
use Rattle.std.proofs.Common.{◌<◌, ℕ, zero, suc, arith}

-- what holds of each of four
pub each_of_four : (P : ℕ → Type 0) → P 0 → P 1 → P 2 → P 3 → (k : ℕ) → k < 4 → P k
each_of_four P a b c d zero within = a
each_of_four P a b c d (suc zero) within = b
each_of_four P a b c d (suc (suc zero)) within = c
each_of_four P a b c d (suc (suc (suc zero))) within = d
each_of_four P a b c d (suc (suc (suc (suc k)))) within = absurd (omega arith)
