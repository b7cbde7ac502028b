-- A counter with further parts.
use Rattle.reh_inventory_census.proofs.CounterLaws.{parts-more}
use Rattle.reh_inventory_census.proofs.counter.Counter.add_parts.Goals as goal

pub returns-clause-added : goal.returns-clause-added
returns-clause-added c = λ parts more old new.
    parts-more parts more c.args.self.now c.args.count c.add.new.self c.in_ok-self.field-0
    c.in_ok-add.ensures c.in_ok-self.ensures old new
