-- None of those that are passed is.
use Rattle.std.proofs.Common.{◌≡◌, false, is_some, take}
use Rattle.std.specs.List.{list_any}
use Rattle.reh_plan.proofs.racks.is_any_known.Given as goal

abbrev pub invariant-loop-name : goal.invariant-loop-name
invariant-loop-name l = list_any (λ name. is_some name) (take l.name-index l.names) ≡ false
