-- The members that are passed.
use Rattle.std.proofs.Common.{◌≡◌, take}
use Rattle.reh_window.proofs.fragments.copy_of.Given as goal

abbrev pub invariant-loop-member : goal.invariant-loop-member
invariant-loop-member l = l.members.items ≡ take l.member-index l.ensemble
