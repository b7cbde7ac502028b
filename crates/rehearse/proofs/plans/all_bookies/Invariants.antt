-- The bookies so far, and no other.
use Rattle.std.proofs.Common.{◌≡◌, ℕ, nat_lt}
use Rattle.reh_types.specs.Sets as set
use Rattle.rehearse.proofs.plans.all_bookies.Given as goal

abbrev pub invariant-loop-number : goal.invariant-loop-number
invariant-loop-number l = (b : ℕ) → set.contains l.set b ≡ nat_lt b l.number
