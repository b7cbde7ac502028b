-- The words that are passed are clear.
use Rattle.std.proofs.Common.{take}
use Rattle.reh_stop.specs.Named.{AreClear}
use Rattle.reh_stop.proofs.named.first_ambiguous.Given as goal

abbrev pub invariant-loop-word : goal.invariant-loop-word
invariant-loop-word l = AreClear l.names (take l.word-index l.words)
