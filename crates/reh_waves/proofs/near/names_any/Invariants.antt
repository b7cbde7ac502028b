-- None of those that are passed is one.
use Rattle.std.proofs.Common.{◌≡◌, false, take}
use Rattle.std.specs.List.{list_any}
use Rattle.reh_census.specs.Bookies.{is_flagged}
use Rattle.reh_waves.proofs.near.names_any.Given as goal

abbrev pub invariant-loop-name : goal.invariant-loop-name
invariant-loop-name l = list_any (is_flagged l.among) (take l.name-index l.names) ≡ false
