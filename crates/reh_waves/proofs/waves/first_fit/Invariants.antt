-- It fits none of the rounds that are passed.
use Rattle.std.proofs.Common.{◌≡◌, ◌<◌, ℕ, false}
use Rattle.std.specs.Prelude.{slice_index_or}
use Rattle.reh_census.specs.Bookies.{bookies_of}
use Rattle.reh_waves.specs.declared.waves.Round.{Round}
use Rattle.reh_waves.specs.Waves.{answer_in, joins}
use Rattle.reh_waves.proofs.waves.first_fit.Given as goal

abbrev pub invariant-loop-number : goal.invariant-loop-number
invariant-loop-number l =
    (k : ℕ) (d : Round) → k < l.number
    → joins (answer_in l.census (bookies_of l.bookies) l.question) l.by_rack l.rack l.bookie (slice_index_or l.rounds k d) ≡ false
