-- Those of the bookies that are passed.
use Rattle.std.proofs.Common.{◌≡◌, ◌≤◌}
use Rattle.std.specs.Prelude.{◌&&◌, count_by}
use Rattle.reh_census.specs.Bookies.{bookies_of, is_flagged, is_writable, none}
use Rattle.reh_census.specs.Striping.{range}
use Rattle.reh_answer.proofs.writers.writable_stopped.Given as goal

abbrev pub invariant-loop-bookie : goal.invariant-loop-bookie
invariant-loop-bookie l = record {
  counted : l.count ≡ count_by (λ b. is_flagged l.stopped b && is_writable (bookies_of l.bookies) none b) (range 0 l.bookie);
  within : l.count ≤ l.bookie;
}
