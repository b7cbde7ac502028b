-- Those that are passed miss none.
use Rattle.std.proofs.Common.{◌≡◌, false, take}
use Rattle.std.specs.List.{list_any}
use Rattle.reh_inventory.specs.declared.ledgers.Fragment.{Fragment}
use Rattle.reh_inventory_plan.specs.Asked.{misses_one}
use Rattle.reh_inventory_plan.proofs.asked.misses_member.Given as goal

abbrev pub invariant-loop-fragment : goal.invariant-loop-fragment
invariant-loop-fragment l =
    list_any (λ (fragment : Fragment). misses_one l.head l.lost fragment.ensemble) (take l.fragment-index l.fragment-items) ≡ false
