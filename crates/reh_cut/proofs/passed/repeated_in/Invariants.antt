-- It is among those that are left.
use Rattle.std.proofs.Common.{◌≡◌, drop}
use Rattle.std.specs.Prelude.{find}
use Rattle.reh_cut.specs.Passed.{stands_twice}
use Rattle.reh_cut.proofs.passed.repeated_in.Given as goal

abbrev pub invariant-loop-member : goal.invariant-loop-member
invariant-loop-member l =
    find (stands_twice l.ensemble) (drop l.member-index l.ensemble) ≡ find (stands_twice l.ensemble) l.ensemble
