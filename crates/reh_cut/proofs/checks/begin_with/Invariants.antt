-- Those that are passed are.
use Rattle.std.proofs.Common.{◌≡◌, true}
use Rattle.std.specs.List.{list_all, range_with_len}
use Rattle.reh_cut.specs.Cuts.{is_same_member}
use Rattle.reh_cut.proofs.checks.begin_with.Given as goal

abbrev pub invariant-loop-index : goal.invariant-loop-index
invariant-loop-index l = list_all (is_same_member l.names l.members l.bookies) (range_with_len 0 l.index) ≡ true
