-- The members that are passed.
use Rattle.std.proofs.Common.{◌≡◌, ◌<◌, ◌||◌, ℕ, take}
use Rattle.reh_types.specs.Sets as set
use Rattle.reh_types.specs.declared.limits.TheConstants.{MAX_BOOKIES}
use Rattle.reh_plan.proofs.MemberLaws.{is_one_of}
use Rattle.reh_plan.proofs.workers.add_members.Given as goal

abbrev pub invariant-loop-member : goal.invariant-loop-member
invariant-loop-member l =
    (b : ℕ) → b < MAX_BOOKIES → set.contains l.members b
    ≡ (set.contains l.fn.members b || is_one_of (take l.member-index l.ensemble) b)
