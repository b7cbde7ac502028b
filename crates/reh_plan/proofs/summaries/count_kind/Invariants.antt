-- Those of the ledgers that are passed.
use Rattle.std.proofs.Common.{◌≡◌, ◌≤◌, take}
use Rattle.std.specs.Prelude.{count_by}
use Rattle.reh_plan.specs.Summaries.{is_kind}
use Rattle.reh_plan.proofs.summaries.count_kind.Given as goal

abbrev pub invariant-loop-one : goal.invariant-loop-one
invariant-loop-one l = record {
  counted : l.count ≡ count_by (is_kind l.kind) (take l.one-index l.left);
  within : l.count ≤ l.one-index;
}
