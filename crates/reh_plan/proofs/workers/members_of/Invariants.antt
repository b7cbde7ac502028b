-- The members of the ensembles that are passed.
use Rattle.std.proofs.Common.{◌≡◌, ◌<◌, ℕ, take}
use Rattle.std.specs.List.{flat_map}
use Rattle.reh_types.specs.Sets as set
use Rattle.reh_types.specs.declared.limits.TheConstants.{MAX_BOOKIES}
use Rattle.reh_plan.proofs.MemberLaws.{is_one_of}
use Rattle.reh_plan.proofs.workers.members_of.Given as goal

abbrev pub invariant-loop-fragment : goal.invariant-loop-fragment
invariant-loop-fragment l =
    (b : ℕ) → b < MAX_BOOKIES → set.contains l.members b
    ≡ is_one_of (flat_map (λ fragment. fragment.ensemble) (take l.fragment-index l.fragments)) b
