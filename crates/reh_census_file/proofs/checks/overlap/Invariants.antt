-- None of those that are passed is one.
use Rattle.std.proofs.Common.{◌≡◌, drop}
use Rattle.std.specs.List.{list_any}
use Rattle.reh_census.specs.Copies.{is_in}
use Rattle.reh_census_file.proofs.checks.overlap.Given as goal

abbrev pub invariant-loop-other : goal.invariant-loop-other
invariant-loop-other l = list_any (is_in l.numbers) (drop l.other-index l.others) ≡ list_any (is_in l.numbers) l.others
