-- Of the ledgers that are passed it is known what each bookie holds.
use Rattle.std.proofs.Common.{All, take}
use Rattle.reh_known.specs.Known.{IsKnownSince}
use Rattle.reh_known.proofs.doubts.first_of_ledgers.Given as goal

abbrev pub invariant-loop-was : goal.invariant-loop-was
invariant-loop-was l = All (IsKnownSince l.state l.done l.began) (take l.was-index l.was-items)
