-- Those of the classes that are passed.
use Rattle.std.proofs.Common.{◌≡◌, ◌&&◌, Bool, take}
use Rattle.reh_census.specs.Bookies.{is_flagged}
use Rattle.reh_census.specs.Counting.{count_in}
use Rattle.reh_census.specs.declared.classes.Class.{Class}
use Rattle.reh_waves.specs.Near.{names_class}
use Rattle.reh_waves.proofs.near.entries_near.Given as goal

abbrev pub invariant-loop-counted : goal.invariant-loop-counted
invariant-loop-counted l =
    (test : Class → Bool)
    → count_in l.near.items test
    ≡ count_in (take l.counted-index l.entries) (λ class. test class && names_class (is_flagged l.among) class)
