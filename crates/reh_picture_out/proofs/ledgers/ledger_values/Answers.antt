-- One ledger more is written.
use Rattle.reh_picture_out.specs.Written.{ledger_data}
use Rattle.reh_picture_out.proofs.Lists.{made_more}
use Rattle.reh_picture_out.proofs.ledgers.ledger_values.Goals as goal

pub loop-ledger-preserved : goal.loop-ledger-preserved
loop-ledger-preserved c =
    rw c.in_ok-push.ensures.items
    (made_more (ledger_data c.args.names.now) c.args.ledgers.now c.loop-ledger.ledger-index c.ledger-item.result c.loop-ledger-test.true
    c.ledger-item.is c.loop-ledger.values.items _ c.loop-ledger.invariant c.in_ok-ledger_value.ensures)
