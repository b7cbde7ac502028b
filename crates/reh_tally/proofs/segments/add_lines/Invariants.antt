-- The lines that are passed.
use Rattle.std.proofs.Common.{◌≡◌, ◌+◌, Bool, take}
use Rattle.reh_census.specs.declared.classes.Class.{Class}
use Rattle.reh_census.specs.Counting.{count_in}
use Rattle.reh_tally.specs.Segments.{count_classes}
use Rattle.reh_tally.proofs.segments.add_lines.Given as goal

abbrev pub invariant-loop-line : goal.invariant-loop-line
invariant-loop-line l =
    (test : Class → Bool)
    → count_in l.census.items test
    ≡ count_in l.initial.census.items test + count_classes l.members l.ledger (take l.line-index l.lines) test
