-- Those that are passed have one; the first without one is among the others.
use Rattle.std.proofs.Common.{◌≡◌, drop, take, true}
use Rattle.std.specs.List.{list_all, list_any}
use Rattle.reh_cut.specs.Chosen.{first_missing, has_id}
use Rattle.reh_cut.proofs.chosen.ChosenLedgers.first_missing.Given as goal

abbrev pub invariant-loop-id : goal.invariant-loop-id
invariant-loop-id l =
    (list_all (λ id. list_any (has_id id) l.self.ledgers.items) (take l.id-index l.id-items) ≡ true)
    × (first_missing (drop l.id-index l.id-items) l.self.ledgers.items ≡ first_missing l.id-items l.self.ledgers.items)
