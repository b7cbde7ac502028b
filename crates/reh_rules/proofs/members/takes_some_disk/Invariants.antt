-- No bookie that is passed is one.
use Rattle.std.proofs.Common.{◌≡◌, ◌<◌, ℕ, false}
use Rattle.reh_census.specs.Tails.{takes_disk}
use Rattle.reh_census.specs.Bookies.{bookies_of, is_flagged}
use Rattle.reh_rules.proofs.members.takes_some_disk.Given as goal

abbrev pub invariant-loop-bookie : goal.invariant-loop-bookie
invariant-loop-bookie l = (b : ℕ) → b < l.bookie → takes_disk (bookies_of l.bookies) l.question (is_flagged l.stopped) b ≡ false
