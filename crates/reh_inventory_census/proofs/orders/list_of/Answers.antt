-- The names so far were added, and one more.
use Rattle.reh_inventory_census.proofs.OrderLemmas.{names-more}
use Rattle.reh_inventory_census.proofs.orders.list_of.Goals as goal

pub loop-text-preserved : goal.loop-text-preserved
loop-text-preserved c =
    names-more c.args.texts.now c.loop-text.text-index _ c.loop-text.names c.add.new.self c.in_ok-add.field-0
    c.loop-text-test.true c.requires.different c.loop-text.invariant c.in_ok-add.ensures.new c.in_ok-add.ensures.added
