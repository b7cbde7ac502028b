-- What the bookies so far hold of the ledger is added.
use Rattle.std.proofs.Common.{map}
use Rattle.serde_json.specs.View.{view}
use Rattle.reh_picture_out.specs.Holdings.{Adds}
use Rattle.reh_picture_out.proofs.HoldingLaws.{is_below}
use Rattle.reh_picture_out.proofs.contents.push_contents.Given as goal

abbrev pub invariant-loop-bookie : goal.invariant-loop-bookie
invariant-loop-bookie l =
    Adds l.state.names l.state.parts.held l.told (is_below l.bookie l.ledger.id)
    (map view l.fn.contents.items) (map view l.contents.items)
