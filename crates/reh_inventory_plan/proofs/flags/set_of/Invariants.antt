-- The bookies so far whose flags are set, and no other.
use Rattle.std.proofs.Common.{◌≡◌, ℕ, nat_lt}
use Rattle.std.specs.Prelude.{◌&&◌}
use Rattle.reh_types.specs.Sets as set
use Rattle.reh_inventory_plan.specs.Pictures.{is_flagged}
use Rattle.reh_inventory_plan.proofs.flags.set_of.Given as goal

abbrev pub invariant-loop-number : goal.invariant-loop-number
invariant-loop-number l =
    (b : ℕ) → set.contains l.bookies b ≡ (nat_lt b l.number && is_flagged l.flags b)
