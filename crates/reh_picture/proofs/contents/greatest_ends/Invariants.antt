-- The map says the greatest entry of each ledger in the holdings so far.
use Rattle.std.proofs.Common.{take, fold}
use Rattle.std.specs.List.{flat_map}
use Rattle.std.specs.BTreeMap.{get}
use Rattle.std.specs.Ordering.{nat_cmp}
use Rattle.reh_types.specs.Sets as set
use Rattle.reh_picture.specs.Contents.{copies_in, IsGreatest}
use Rattle.reh_picture.proofs.contents.greatest_ends.Given as goal

abbrev pub invariant-loop-holding : goal.invariant-loop-holding
invariant-loop-holding l =
    IsGreatest (get nat_cmp l.ends) (fold set.insert set.empty (flat_map copies_in (take l.holding-index l.holdings)))
