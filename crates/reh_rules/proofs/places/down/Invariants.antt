-- Those of the members that are passed.
use Rattle.std.proofs.Common.{◌≡◌, ◌≤◌, not, take}
use Rattle.std.specs.Prelude.{count_by}
use Rattle.reh_census.specs.Bookies.{bookies_of, is_flagged, is_up}
use Rattle.reh_rules.proofs.places.down.Given as goal

abbrev pub invariant-loop-member : goal.invariant-loop-member
invariant-loop-member l = record {
  counted : l.count ≡ count_by (λ b. not (is_up (bookies_of l.bookies) (is_flagged l.stopped) b)) (take l.member-index l.members);
  within : l.count ≤ l.member-index;
}
