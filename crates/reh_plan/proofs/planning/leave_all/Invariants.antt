-- The comments on the ledgers that are passed.
use Rattle.std.proofs.Common.{◌≡◌, ◌++◌, map, take}
use Rattle.reh_plan.specs.Plans.{comment_of}
use Rattle.reh_plan.proofs.planning.leave_all.Given as goal

abbrev pub invariant-loop-one : goal.invariant-loop-one
invariant-loop-one l = l.plan ≡ record l.fn.plan { lines = l.fn.plan.lines ++ map comment_of (take l.one-index l.left) }
