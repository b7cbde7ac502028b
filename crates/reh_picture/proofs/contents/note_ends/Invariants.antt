-- Where the old map said the greatest entries, the new one says them with the ranges so far.
use Rattle.std.proofs.Common.{take, fold}
use Rattle.std.specs.List.{flat_map}
use Rattle.std.specs.BTreeMap.{get}
use Rattle.std.specs.Ordering.{nat_cmp}
use Rattle.reh_types.specs.Sets as set
use Rattle.reh_model.specs.Contents.{Contents}
use Rattle.reh_picture.specs.Contents.{copies_within, IsGreatest}
use Rattle.reh_picture.proofs.contents.note_ends.Given as goal

abbrev pub invariant-loop-range : goal.invariant-loop-range
invariant-loop-range l =
    (contents : Contents) → IsGreatest (get nat_cmp l.fn.ends) contents
    → IsGreatest (get nat_cmp l.ends)
    (fold set.insert contents
    (flat_map (copies_within l.holding-inside.bookie l.holding-inside.ledger) (take l.range-index l.range-items)))
