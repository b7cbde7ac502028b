-- What is held of the ledgers so far is written.
use Rattle.std.proofs.Common.{[], map, length, take}
use Rattle.serde_json.specs.View.{view}
use Rattle.reh_picture_out.specs.Holdings.{Adds}
use Rattle.reh_picture_out.proofs.HoldingLaws.{is_among}
use Rattle.reh_picture_out.proofs.contents.content_values.Given as goal

abbrev pub invariant-loop-ledger : goal.invariant-loop-ledger
invariant-loop-ledger l =
    Adds l.state.names l.state.parts.held l.told (is_among (length l.state.names) (take l.ledger-index l.ledger-items))
    [] (map view l.contents.items)
