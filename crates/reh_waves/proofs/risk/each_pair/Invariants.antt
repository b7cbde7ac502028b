-- The pairs of those that are passed, and those from there on.
use Rattle.std.proofs.Common.{◌≡◌, ◌++◌, drop}
use Rattle.reh_waves.specs.Losses.{pairs_of}
use Rattle.reh_waves.proofs.risk.each_pair.Given as goal

abbrev pub invariant-loop-number : goal.invariant-loop-number
invariant-loop-number l = l.pairs.items ++ pairs_of (drop l.number l.bookies) ≡ pairs_of l.bookies
