-- The holdings that are passed are of the same ledger.
use Rattle.std.proofs.Common.{◌≡◌, ◌<◌, ◌≤◌, ◌-◌, ℕ, get_or, length}
use Rattle.reh_picture.specs.Contents.{Holding}
use Rattle.reh_inputs.proofs.by_ledger.run_end.Given as goal

abbrev pub invariant-loop-end : goal.invariant-loop-end
invariant-loop-end l = record {
  later : l.at < l.end;
  within : l.end ≤ length l.holdings;
  alike : (k : ℕ) (d : Holding) → l.at ≤ k → k < l.end → (get_or l.holdings k d).ledger ≡ (get_or l.holdings l.at d).ledger;
}

abbrev pub decreases-loop-end : goal.decreases-loop-end
decreases-loop-end l = length l.holdings - l.end
