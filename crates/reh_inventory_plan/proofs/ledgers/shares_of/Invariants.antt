-- What those of the bookies so far are given.
use Rattle.std.proofs.Common.{◌≡◌, map, take}
use Rattle.std.specs.List.{filter}
use Rattle.reh_inventory_plan.specs.Ledgers.{is_given, named_share}
use Rattle.reh_inventory_plan.proofs.ledgers.shares_of.Given as goal

abbrev pub invariant-loop-share : goal.invariant-loop-share
invariant-loop-share l =
    l.named.items ≡ map (named_share l.names) (filter is_given (take l.share-index l.shares))
