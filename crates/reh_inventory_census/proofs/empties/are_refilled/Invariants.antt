-- None of the contents so far says so.
use Rattle.std.proofs.Common.{◌≡◌, false, take}
use Rattle.std.specs.List.{list_any}
use Rattle.reh_inventory_census.specs.Empties.{holds_though_empty}
use Rattle.reh_inventory_census.proofs.empties.are_refilled.Given as goal

abbrev pub invariant-loop-content : goal.invariant-loop-content
invariant-loop-content l = list_any (holds_though_empty l.names l.bookies) (take l.content-index l.contents) ≡ false
