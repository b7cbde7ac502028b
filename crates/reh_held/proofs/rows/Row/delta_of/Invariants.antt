-- The turns so far, and the words that are left.
use Rattle.reh_held.proofs.DeltaLaws.{IsTurningOn}
use Rattle.reh_held.proofs.rows.Row.delta_of.Given as goal

abbrev pub invariant-loop-word : goal.invariant-loop-word
invariant-loop-word l = IsTurningOn l.self l.entries l.turns.items l.word-iterator
