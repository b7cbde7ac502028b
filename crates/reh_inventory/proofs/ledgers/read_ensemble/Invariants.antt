-- The members so far have no fault; theirs are the names of the ensemble.
use Rattle.reh_inventory_fields.specs.declared.places.Place.TheVariants as place
use Rattle.reh_inventory_fields.specs.Faults.{fault_at}
use Rattle.reh_inventory.specs.Ledgers.{member_fault, member_name}
use Rattle.reh_inventory_fields.proofs.Lists.{HasMade}
use Rattle.reh_inventory.proofs.ledgers.read_ensemble.Given as goal

abbrev pub invariant-loop-i : goal.invariant-loop-i
invariant-loop-i l =
    HasMade (λ i _ member. fault_at (place.Member l.fragment i) (member_fault member)) member_name l.members l.i
    l.ensemble.items
