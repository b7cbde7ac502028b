-- One fragment more is written.
use Rattle.reh_picture_out.specs.Written.{fragment_data}
use Rattle.reh_picture_out.proofs.Lists.{made_more}
use Rattle.reh_picture_out.proofs.ledgers.fragment_values.Goals as goal

pub loop-fragment-preserved : goal.loop-fragment-preserved
loop-fragment-preserved c =
    rw c.in_ok-push.ensures.items
    (made_more (fragment_data c.args.names.now) c.args.fragments.now c.loop-fragment.fragment-index c.fragment-item.result c.loop-fragment-test.true
    c.fragment-item.is c.loop-fragment.values.items _ c.loop-fragment.invariant c.in_ok-fragment_value.ensures)
