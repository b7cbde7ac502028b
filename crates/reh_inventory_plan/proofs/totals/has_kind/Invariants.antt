-- Those that are passed are left for other reasons.
use Rattle.std.proofs.Common.{◌≡◌, false, take}
use Rattle.std.specs.List.{list_any}
use Rattle.std.specs.Prelude.{bytes_eq}
use Rattle.reh_plan.specs.Reasons.{kind_of}
use Rattle.reh_plan.specs.declared.reasons.Left.{Left}
use Rattle.reh_inventory_plan.proofs.totals.has_kind.Given as goal

abbrev pub invariant-loop-one : goal.invariant-loop-one
invariant-loop-one l =
    list_any (λ (left : Left). bytes_eq (kind_of left.reason) l.kind) (take l.one-index l.left) ≡ false
