-- Waves of the bookies that are passed.
use Rattle.std.proofs.Common.{◌≡◌, ◌&&◌, ℕ, take}
use Rattle.std.specs.Prelude.{count_by, ◌==◌}
use Rattle.reh_census.specs.Bookies.{bookies_of}
use Rattle.reh_waves.specs.Waves.{ArePlaced, AreWaves, answer_in, places}
use Rattle.reh_waves.proofs.waves.waves_of.Given as goal

abbrev pub invariant-loop-bookie : goal.invariant-loop-bookie
invariant-loop-bookie l = record {
  waves : AreWaves (answer_in l.census (bookies_of l.bookies) l.question) (bookies_of l.bookies) l.by_rack l.waves;
  places : (b : ℕ)
      → places l.waves b
      ≡ count_by (λ x. x == b && (bookies_of l.bookies).is_registered x) (take l.bookie-index l.order);
  placed : ArePlaced (answer_in l.census (bookies_of l.bookies) l.question) (bookies_of l.bookies) l.by_rack
      (take l.bookie-index l.order) l.waves;
}
