-- The pairs with those that are passed.
use Rattle.std.proofs.Common.{◌≡◌, ◌++◌, map, take}
use Rattle.reh_waves.specs.declared.losses.Lost.TheVariants.{Pair}
use Rattle.reh_waves.proofs.risk.add_pairs.Given as goal

abbrev pub invariant-loop-other : goal.invariant-loop-other
invariant-loop-other l = l.pairs.items ≡ l.initial.pairs.items ++ map (λ other. Pair l.bookie other) (take l.other-index l.others)
