-- No bookie that is passed is one.
use Rattle.std.proofs.Common.{◌≡◌, ◌<◌, ◌&&◌, ℕ, false}
use Rattle.std.specs.Prelude.{◌==◌}
use Rattle.std.specs.Option.{option_map_or}
use Rattle.reh_census.specs.Bookies.{bookies_of, is_flagged, is_writable}
use Rattle.reh_rules.proofs.racks.has_writable.Given as goal

abbrev pub invariant-loop-bookie : goal.invariant-loop-bookie
invariant-loop-bookie l =
    (b : ℕ) → b < l.bookie
    → (is_writable (bookies_of l.bookies) (is_flagged l.stopped) b
    && option_map_or (λ r. r == l.rack) ((bookies_of l.bookies).rack_of b) false)
    ≡ false
