-- Of the bookies that are passed it is known what they hold.
use Rattle.std.proofs.Common.{◌<◌, ℕ}
use Rattle.reh_known.specs.Known.{IsKnown}
use Rattle.reh_known.proofs.doubts.first_of_bookies.Given as goal

abbrev pub invariant-loop-bookie : goal.invariant-loop-bookie
invariant-loop-bookie l = (b : ℕ) → b < l.bookie → IsKnown l.state l.done l.began l.was l.now b
