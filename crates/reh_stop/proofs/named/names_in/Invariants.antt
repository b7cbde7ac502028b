-- The names that the words give which are passed.
use Rattle.std.proofs.Common.{◌≡◌, take}
use Rattle.reh_stop.specs.Named.{names_in, texts}
use Rattle.reh_stop.proofs.named.names_in.Given as goal

abbrev pub invariant-loop-word : goal.invariant-loop-word
invariant-loop-word l = texts l.given.items ≡ names_in l.names (take l.word-index l.words)
