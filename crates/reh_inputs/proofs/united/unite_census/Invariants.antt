-- The bookies that are passed are there, and shown alike; and those before stay as they are shown.
use Rattle.std.proofs.Common.{◌≡◌, ◌<◌, ℕ, true, fold}
use Rattle.reh_census.specs.Striping.{range}
use Rattle.reh_inputs.specs.Cluster.{Keeps}
use Rattle.reh_inputs.specs.United.{shows_counted, with_counted}
use Rattle.reh_inputs.proofs.united.unite_census.Given as goal

abbrev pub invariant-loop-number : goal.invariant-loop-number
invariant-loop-number l =
    (l.cluster ≡ fold (with_counted l.census) l.fn.cluster (range 0 l.number))
    × ((n : ℕ) → n < l.number → shows_counted l.cluster l.census n ≡ true)
    × Keeps l.fn.cluster l.cluster
