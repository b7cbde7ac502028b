-- The racks that are passed.
use Rattle.std.proofs.Common.{◌≡◌, map, take}
use Rattle.reh_waves.specs.declared.losses.Lost.TheVariants.{Rack}
use Rattle.reh_waves.proofs.risk.each_rack.Given as goal

abbrev pub invariant-loop-rack : goal.invariant-loop-rack
invariant-loop-rack l = l.lost.items ≡ map (λ rack. Rack rack) (take l.rack-index l.racks)
