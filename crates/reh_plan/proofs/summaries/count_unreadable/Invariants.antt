-- The lines so far are counted.
use Rattle.std.proofs.Common.{◌≡◌, ◌*◌, ◌≤◌, take, unwrap_or}
use Rattle.std.specs.Prelude.{sum_by}
use Rattle.reh_plan.proofs.summaries.count_unreadable.Given as goal

abbrev pub invariant-loop-line : goal.invariant-loop-line
invariant-loop-line l = record {
  count : l.count ≡ sum_by (λ line. unwrap_or line.lost 0) (take l.line-index l.line-items);
  few : l.count ≤ 4294967296 * l.line-index;
}
