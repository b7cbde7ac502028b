-- None of those that are passed has the name.
use Rattle.std.proofs.Common.{◌≡◌, false, take}
use Rattle.std.specs.Prelude.{bytes_eq}
use Rattle.std.specs.List.{list_any}
use Rattle.reh_cut.proofs.checks.index_in.Given as goal

abbrev pub invariant-loop-index : goal.invariant-loop-index
invariant-loop-index l = list_any (bytes_eq l.name) (take l.index l.ensemble) ≡ false
