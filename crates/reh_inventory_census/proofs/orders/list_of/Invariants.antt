-- The names so far were added.
use Rattle.std.proofs.Common.{◌≡◌, map, take}
use Rattle.reh_inventory_census.proofs.orders.list_of.Given as goal

abbrev pub invariant-loop-text : goal.invariant-loop-text
invariant-loop-text l = l.names ≡ map (λ text. text.now) (take l.text-index l.texts)
