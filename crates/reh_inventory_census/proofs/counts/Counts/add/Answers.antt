-- Further lines are added, and then maybe joined.
use Rattle.std.proofs.Common.{◌++◌}
use Rattle.std.proofs.lemmas.Result.{on_ok_weaker}
use Rattle.reh_inventory_census.proofs.counts.Counts.add.Goals as goal

pub returns : goal.returns
returns c =
    on_ok_weaker c.join_if_long.result (λ joined. λ holders ledgers more own others.
    joined holders (ledgers ++ more) (c.in_ok-append.ensures holders ledgers more own others)) c.join_if_long.ensures
