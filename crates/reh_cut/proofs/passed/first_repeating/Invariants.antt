-- It is among those that are left.
use Rattle.std.proofs.Common.{◌≡◌, drop}
use Rattle.std.specs.Prelude.{find}
use Rattle.reh_cut.specs.Passed.{repeats}
use Rattle.reh_cut.proofs.passed.first_repeating.Given as goal

abbrev pub invariant-loop-fragment : goal.invariant-loop-fragment
invariant-loop-fragment l = find repeats (drop l.fragment-index l.fragment-items) ≡ find repeats l.fragment-items
