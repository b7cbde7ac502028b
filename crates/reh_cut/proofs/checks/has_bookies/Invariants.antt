-- It has those that are passed.
use Rattle.std.proofs.Common.{◌≡◌, is_some, take, true}
use Rattle.std.specs.List.{list_all}
use Rattle.reh_model.specs.Cluster.{bookie_named}
use Rattle.reh_cut.proofs.checks.has_bookies.Given as goal

abbrev pub invariant-loop-content : goal.invariant-loop-content
invariant-loop-content l = list_all (λ content. is_some (bookie_named l.names content.bookie)) (take l.content-index l.contents) ≡ true
