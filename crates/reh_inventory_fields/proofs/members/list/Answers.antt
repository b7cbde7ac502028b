-- The elements of the array are those of the member's list.
use Rattle.std.proofs.Common.{arith}
use Rattle.reh_fields.proofs.Elements.{elements-items_of}
use Rattle.reh_inventory_fields.proofs.members.list.Goals as goal

pub returns-clause-list : goal.returns-clause-list
returns-clause-list c = grind (arith, elements-items_of)
