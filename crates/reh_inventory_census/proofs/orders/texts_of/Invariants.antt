-- The names so far were added.
use Rattle.std.proofs.Common.{◌≡◌, map, take}
use Rattle.reh_inventory_census.proofs.orders.texts_of.Given as goal

abbrev pub invariant-loop-number : goal.invariant-loop-number
invariant-loop-number l = map (λ text. text.now) l.texts.items ≡ take l.number l.names
