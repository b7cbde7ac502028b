-- It shows those that are passed.
use Rattle.std.proofs.Common.{◌≡◌, true}
use Rattle.std.specs.List.{list_all, range_with_len}
use Rattle.reh_cut.specs.Cuts.{shows_ledger_at}
use Rattle.reh_cut.proofs.checks.begins_with.Given as goal

abbrev pub invariant-loop-index : goal.invariant-loop-index
invariant-loop-index l =
    list_all
    (shows_ledger_at l.head l.assume l.listing.names l.listing.holdings.items l.lines l.listing.ledgers.items)
    (range_with_len 0 l.index) ≡ true
