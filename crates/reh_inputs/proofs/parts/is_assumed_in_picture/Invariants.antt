-- Nothing that is passed is assumed.
use Rattle.std.proofs.Common.{◌≡◌, false, take}
use Rattle.std.specs.List.{list_any}
use Rattle.reh_picture.specs.Contents.{Holding}
use Rattle.reh_inputs.proofs.parts.is_assumed_in_picture.Given as goal

abbrev pub invariant-loop-holding : goal.invariant-loop-holding
invariant-loop-holding l = list_any (λ (h : Holding). h.is_assumed) (take l.holding-index l.holding-items) ≡ false
