-- Those of the members that are passed, and the bookie.
use Rattle.std.proofs.Common.{◌≡◌, ◌∷◌, ℕ, length, take}
use Rattle.reh_census.specs.Bookies.{is_flagged}
use Rattle.reh_census.specs.Copies.{is_in}
use Rattle.reh_waves.proofs.sets.set_of.Given as goal

abbrev pub invariant-loop-member : goal.invariant-loop-member
invariant-loop-member l = record {
  long : length l.flags.items ≡ l.count;
  flagged : (b : ℕ) → is_flagged l.flags.items b ≡ is_in (l.bookie ∷ take l.member-index l.members) b;
}
