-- The contents have gained the entries of the ranges so far, and all else is as it was.
use Rattle.std.proofs.Common.{◌≡◌, take, fold}
use Rattle.std.specs.List.{flat_map}
use Rattle.reh_types.specs.Sets as set
use Rattle.reh_picture.specs.Contents.{copies_within}
use Rattle.reh_picture.proofs.contents.add_holding.Given as goal

abbrev pub invariant-loop-ends : goal.invariant-loop-ends
invariant-loop-ends l =
    l.held
    ≡ record l.fn.held {
      contents = fold set.insert l.fn.held.contents
          (flat_map (copies_within l.holding-inside.bookie l.holding-inside.ledger) (take l.ends-index l.ends-items));
    }
