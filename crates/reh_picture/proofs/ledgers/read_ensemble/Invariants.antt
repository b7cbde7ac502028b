-- The members so far have no fault, and theirs are the bookies of the ensemble.
use Rattle.reh_fields.specs.Names.{bookie_in}
use Rattle.reh_picture.specs.declared.places.Place.TheVariants as place
use Rattle.reh_picture.specs.Places.{fault_at}
use Rattle.reh_picture.specs.Ledgers.{member_fault, member_name}
use Rattle.reh_picture.proofs.Lists.{HasMade}
use Rattle.reh_picture.proofs.ledgers.read_ensemble.Given as goal

abbrev pub invariant-loop-i : goal.invariant-loop-i
invariant-loop-i l =
    HasMade (λ i _ member. fault_at (place.Member l.ledger l.fragment i) (member_fault l.names member))
    (λ member. bookie_in l.names (member_name member)) l.members l.i l.ensemble.items
