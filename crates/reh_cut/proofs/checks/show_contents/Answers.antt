-- One that fails is enough.
use Rattle.std.proofs.Common.{◌∙◌, arith, length, sym}
use Rattle.reh_cut.specs.Cuts.{shows_content_at}
use Rattle.reh_cut.proofs.RangeLaws.{fails_at}
use Rattle.reh_cut.proofs.checks.show_contents.Goals as goal

pub returns-then-not-shows_content_at : goal.returns-then-not-shows_content_at
returns-then-not-shows_content_at c =
    sym (fails_at
    (shows_content_at c.args.head.now c.args.assume c.args.line.now c.args.names.now c.args.holdings.now)
    (length c.args.names.now) c.loop-number.number (omega (arith, c.loop-number-test.true, c.len-number-end.ensures.count))
    (sym c.shows_content_at.ensures ∙ c.if-not-shows_content_at.true))
