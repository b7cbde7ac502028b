-- None of the words that are passed is a word before it.
use Rattle.std.proofs.Common.{◌≡◌, ◌<◌, ℕ, false}
use Rattle.reh_stop.specs.Named.{is_repeated}
use Rattle.reh_stop.proofs.named.first_twice.Given as goal

abbrev pub invariant-loop-number : goal.invariant-loop-number
invariant-loop-number l = (number : ℕ) → number < l.number → is_repeated l.words number ≡ false
