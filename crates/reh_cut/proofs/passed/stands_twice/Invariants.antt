-- Those of the members that are passed.
use Rattle.std.proofs.Common.{◌≡◌, ◌≤◌, take}
use Rattle.std.specs.Prelude.{bytes_eq, count_by}
use Rattle.reh_cut.proofs.passed.stands_twice.Given as goal

abbrev pub invariant-loop-member : goal.invariant-loop-member
invariant-loop-member l = record {
  counted : l.count ≡ count_by (λ member. bytes_eq member l.name) (take l.member-index l.ensemble);
  within : l.count ≤ l.member-index;
}
