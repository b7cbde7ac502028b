-- The contents that are passed.
use Rattle.std.proofs.Common.{◌≡◌, ◌<◌, ℕ, Bool, true, get_or, length}
use Rattle.reh_census.specs.declared.ledgers.Content.{Content}
use Rattle.reh_tally.specs.Cursors.{ranges_of}
use Rattle.reh_tally.specs.Stretches.{AreRising}
use Rattle.reh_tally.proofs.cursors.risings_of.Given as goal

abbrev pub invariant-loop-content : goal.invariant-loop-content
invariant-loop-content l = record {
  long : length l.risings.items ≡ l.content-index;
  rising : (k : ℕ) (d : Content) (e : Bool) → k < l.content-index → get_or l.risings.items k e ≡ true
      → AreRising (ranges_of (get_or l.content-items k d).told);
}
