-- It is among those that are left.
use Rattle.std.proofs.Common.{◌≡◌, drop, not}
use Rattle.std.specs.Prelude.{find}
use Rattle.reh_cut.specs.Cuts.{is_known}
use Rattle.reh_cut.proofs.checks.first_unknown_of.Given as goal

abbrev pub invariant-loop-member : goal.invariant-loop-member
invariant-loop-member l =
    find (λ name. not (is_known l.head l.assume l.line name)) (drop l.member-index l.members)
    ≡ find (λ name. not (is_known l.head l.assume l.line name)) l.members
