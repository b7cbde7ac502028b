-- Both are counted, one after the other.
use Rattle.reh_inventory_census.specs.Counters.{with_count}
use Rattle.reh_inventory_census.proofs.CounterLaws.{parts-more}
use Rattle.reh_inventory_census.proofs.counter.LedgerCount.add.Goals as goal

pub returns : goal.returns
returns c = λ counter parts more old new.
    parts-more parts more (with_count counter c.args.self.now) c.args.other c.append.new.self c.in_ok-self.field-0
    c.in_ok-append.ensures c.in_ok-self.ensures old new
