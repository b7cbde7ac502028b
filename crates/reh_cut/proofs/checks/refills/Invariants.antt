-- Those that are passed do not.
use Rattle.std.proofs.Common.{◌≡◌, false, take}
use Rattle.std.specs.List.{list_any}
use Rattle.reh_cut.specs.Cuts.{holds_though_empty}
use Rattle.reh_cut.proofs.checks.refills.Given as goal

abbrev pub invariant-loop-content : goal.invariant-loop-content
invariant-loop-content l = list_any (holds_though_empty l.head) (take l.content-index l.content-items) ≡ false
