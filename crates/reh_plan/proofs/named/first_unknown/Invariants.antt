-- Each of those that are passed names one.
use Rattle.std.proofs.Common.{◌≡◌, false, is_some, not, take}
use Rattle.std.specs.List.{list_any}
use Rattle.reh_model.specs.Cluster.{bookie_named}
use Rattle.reh_plan.proofs.named.first_unknown.Given as goal

abbrev pub invariant-loop-number : goal.invariant-loop-number
invariant-loop-number l = list_any (λ word. not (is_some (bookie_named l.names word.now))) (take l.number l.words) ≡ false
