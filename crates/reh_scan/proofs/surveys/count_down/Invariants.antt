-- How many members at the indexes that are passed aren't registered.
use Rattle.std.proofs.Common.{◌≡◌, not, take}
use Rattle.std.specs.Prelude.{count_by}
use Rattle.reh_model.specs.Cluster.{is_up}
use Rattle.reh_scan.proofs.surveys.count_down.Given as goal

abbrev pub invariant-loop-index : goal.invariant-loop-index
invariant-loop-index l = l.down ≡ count_by (λ b. not (is_up l.state b)) (take l.index l.fragment.ensemble)
