-- The numbers of entries with fewer copies.
use Rattle.std.proofs.Common.{◌≡◌, map}
use Rattle.std.specs.Prelude.{◌==◌}
use Rattle.reh_census.specs.Bookies.{is_flagged}
use Rattle.reh_census.specs.Copies.{left}
use Rattle.reh_census.specs.Counting.{count_in}
use Rattle.reh_census.specs.Striping.{range}
use Rattle.reh_answer.proofs.tables.table_of.Given as goal

abbrev pub invariant-loop-copies : goal.invariant-loop-copies
invariant-loop-copies l =
    l.counts.items
    ≡ map (λ copies. count_in l.census.entries (λ class. left (is_flagged l.stopped) class.known == copies)) (range 0 l.copies)
