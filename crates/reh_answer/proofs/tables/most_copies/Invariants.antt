-- The most that the classes have which are passed.
use Rattle.std.proofs.Common.{◌≡◌, take}
use Rattle.reh_answer.specs.Facts.{most_copies}
use Rattle.reh_answer.proofs.tables.most_copies.Given as goal

abbrev pub invariant-loop-counted : goal.invariant-loop-counted
invariant-loop-counted l = l.most ≡ most_copies (take l.counted-index l.census)
