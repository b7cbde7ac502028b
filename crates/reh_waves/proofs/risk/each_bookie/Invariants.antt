-- The bookies that are passed.
use Rattle.std.proofs.Common.{◌≡◌, map, take}
use Rattle.reh_waves.specs.declared.losses.Lost.TheVariants.{Bookie}
use Rattle.reh_waves.proofs.risk.each_bookie.Given as goal

abbrev pub invariant-loop-bookie : goal.invariant-loop-bookie
invariant-loop-bookie l = l.lost.items ≡ map (λ b. Bookie b) (take l.bookie-index l.bookies)
