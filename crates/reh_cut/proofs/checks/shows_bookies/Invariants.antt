-- It does of those that are passed.
use Rattle.std.proofs.Common.{◌≡◌, true}
use Rattle.std.specs.List.{list_all, range_with_len}
use Rattle.reh_cut.specs.Cuts.{shows_bookie_at}
use Rattle.reh_cut.proofs.checks.shows_bookies.Given as goal

abbrev pub invariant-loop-number : goal.invariant-loop-number
invariant-loop-number l =
    list_all (shows_bookie_at l.head l.listing.names l.listing.lost_at.items l.marks) (range_with_len 0 l.number) ≡ true
