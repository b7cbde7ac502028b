-- The ledgers so far.
use Rattle.std.proofs.Common.{◌≡◌, map, take}
use Rattle.serde_json.specs.View.{view}
use Rattle.reh_picture_out.specs.Written.{ledger_data}
use Rattle.reh_picture_out.proofs.ledgers.ledger_values.Given as goal

abbrev pub invariant-loop-ledger : goal.invariant-loop-ledger
invariant-loop-ledger l = map view l.values.items ≡ map (ledger_data l.names) (take l.ledger-index l.ledgers)
