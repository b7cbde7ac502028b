use Rattle.std.proofs.Common.{◌≡◌, take}
use Rattle.reh_cluster.proofs.changes.clone_list.Given as goal

-- the changes so far are copied
abbrev pub invariant-loop-change : goal.invariant-loop-change
invariant-loop-change l = l.copy.items ≡ take l.change-index l.list.items
