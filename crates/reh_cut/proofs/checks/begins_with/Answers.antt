-- One that fails is enough.
use Rattle.std.proofs.Common.{◌∙◌, sym}
use Rattle.reh_cut.proofs.RangeLaws.{fails_at}
use Rattle.reh_cut.proofs.checks.begins_with.Goals as goal

pub returns-then-not-shows_ledger_at : goal.returns-then-not-shows_ledger_at
returns-then-not-shows_ledger_at c =
    sym (fails_at _ _ c.loop-index.index c.loop-index-test.true (sym c.shows_ledger_at.ensures ∙ c.if-not-shows_ledger_at.true))
