-- Those that are passed are.
use Rattle.std.proofs.Common.{◌≡◌, true}
use Rattle.std.specs.List.{list_all, range_with_len}
use Rattle.reh_cut.specs.Cuts.{is_same_fragment_at}
use Rattle.reh_cut.proofs.checks.begin_alike.Given as goal

abbrev pub invariant-loop-index : goal.invariant-loop-index
invariant-loop-index l = list_all (is_same_fragment_at l.names l.fragments l.others) (range_with_len 0 l.index) ≡ true
