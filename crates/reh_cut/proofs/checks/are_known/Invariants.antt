-- Those that are passed are.
use Rattle.std.proofs.Common.{◌≡◌, take, true}
use Rattle.std.specs.List.{list_all}
use Rattle.reh_cut.specs.Cuts.{is_known}
use Rattle.reh_cut.proofs.checks.are_known.Given as goal

abbrev pub invariant-loop-member : goal.invariant-loop-member
invariant-loop-member l = list_all (is_known l.head l.assume l.line) (take l.member-index l.members) ≡ true
