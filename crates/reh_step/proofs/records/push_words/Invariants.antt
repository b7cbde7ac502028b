-- The changes so far are those of the turns so far.
use Rattle.std.proofs.Common.{◌≡◌, ◌++◌, take}
use Rattle.reh_step.specs.Records.{word_changes}
use Rattle.reh_step.proofs.records.push_words.Given as goal

abbrev pub invariant-loop-turn : goal.invariant-loop-turn
invariant-loop-turn l = l.list.items ≡ l.fn.list.items ++ word_changes l.bookie l.ledger (take l.turn-index l.turns)
