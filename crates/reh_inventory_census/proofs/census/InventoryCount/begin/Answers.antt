-- Nothing is counted but the first line.
use Rattle.std.proofs.Common.{◌∙◌}
use Rattle.reh_inventory_census.proofs.CensusLaws.{begun}
use Rattle.reh_inventory_census.proofs.census.InventoryCount.begin.Goals as goal

pub returns : goal.returns
returns c =
    let head = c.in_ok-head.head in
    let cluster = c.in_ok-cluster.ensures in
    let counter = c.new.ensures in
    begun c.args.names c.args.is_strict c.args.first_line.now head
    (record {
      inventory = c.of_head.result;
      counter = c.new.result;
      racks = c.in_ok-cluster.cluster.racks;
      taken = c.in_ok-cluster.cluster.taken;
    })
    c.in_ok-head.ensures c.of_head.ensures
    (record {
      names_are = counter.names;
      named = cluster.named;
      racks = cluster.racks;
      bookies = counter.bookies ∙ cluster.bookies;
      assumes = counter.assumes;
      taken = cluster.taken;
    })
    counter.strict counter.none
