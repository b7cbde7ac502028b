-- One that fails is enough.
use Rattle.std.proofs.Common.{◌∙◌, arith, length, sym}
use Rattle.reh_cut.specs.Cuts.{shows_bookie_at}
use Rattle.reh_cut.proofs.RangeLaws.{fails_at}
use Rattle.reh_cut.proofs.checks.shows_bookies.Goals as goal

pub returns-then-not-shows_bookie_at : goal.returns-then-not-shows_bookie_at
returns-then-not-shows_bookie_at c =
    sym (fails_at
    (shows_bookie_at c.args.head.now c.args.listing.now.names c.args.listing.now.lost_at.items c.args.marks.now)
    (length c.args.listing.now.names) c.loop-number.number (omega (arith, c.loop-number-test.true, c.len-number-end.ensures.count))
    (sym c.shows_bookie_at.ensures ∙ c.if-not-shows_bookie_at.true))
