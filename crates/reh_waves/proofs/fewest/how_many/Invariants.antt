-- Of those that are passed, and those from there on.
use Rattle.std.proofs.Common.{◌≡◌, ◌+◌, ◌≤◌, drop}
use Rattle.reh_waves.specs.Fewest.{how_many}
use Rattle.reh_waves.proofs.fewest.how_many.Given as goal

abbrev pub invariant-loop-number : goal.invariant-loop-number
invariant-loop-number l = record {
  counted : l.count + how_many (drop l.number l.names) ≡ how_many l.names;
  within : l.count ≤ l.number;
}
