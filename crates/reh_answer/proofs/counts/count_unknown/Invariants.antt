-- Those that are passed.
use Rattle.std.proofs.Common.{◌≡◌, take, length, nat_lt}
use Rattle.reh_census.specs.Counting.{count_in}
use Rattle.reh_answer.proofs.counts.count_unknown.Given as goal

abbrev pub invariant-loop-counted : goal.invariant-loop-counted
invariant-loop-counted l = l.entries ≡ count_in (take l.counted-index l.census) (λ class. nat_lt 0 (length class.untold))
