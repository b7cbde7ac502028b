-- None of the bookies so far is in the rack.
use Rattle.std.proofs.Common.{◌≡◌, ◌<◌, ℕ, false, get_or}
use Rattle.reh_inputs.specs.Shown.{Shown, is_in}
use Rattle.reh_inputs.proofs.cluster.place_of.Given as goal

abbrev pub invariant-loop-place : goal.invariant-loop-place
invariant-loop-place l = (k : ℕ) (d : Shown) → k < l.place → is_in l.rack (get_or l.all k d) ≡ false
