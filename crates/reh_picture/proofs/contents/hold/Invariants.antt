-- The contents are the holdings so far, in rows as at the start.
use Rattle.std.proofs.Common.{◌≡◌, take, fold}
use Rattle.std.specs.List.{flat_map}
use Rattle.reh_types.specs.Sets as set
use Rattle.reh_cluster.specs.Parts.{HasRows}
use Rattle.reh_picture.specs.Contents.{copies_in}
use Rattle.reh_picture.proofs.contents.hold.Given as goal

abbrev pub invariant-loop-holding : goal.invariant-loop-holding
invariant-loop-holding l = record {
  contents : l.held.contents ≡ fold set.insert set.empty (flat_map copies_in (take l.holding-index l.holdings));
  rows : HasRows l.bookies l.ledgers l.held;
}
