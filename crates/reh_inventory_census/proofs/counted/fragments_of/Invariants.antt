-- The fragments that are passed.
use Rattle.std.proofs.Common.{◌≡◌, map}
use Rattle.reh_census.specs.Striping.{range}
use Rattle.reh_inventory_census.specs.Counted.{fragment_of}
use Rattle.reh_inventory_census.proofs.counted.fragments_of.Given as goal

abbrev pub invariant-loop-fragment : goal.invariant-loop-fragment
invariant-loop-fragment l = l.fragments.items ≡ map (fragment_of l.names l.end l.line) (range 0 l.fragment)
