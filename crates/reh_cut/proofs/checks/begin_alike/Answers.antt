-- One that fails is enough.
use Rattle.std.proofs.Common.{◌∙◌, sym}
use Rattle.reh_cut.proofs.RangeLaws.{fails_at}
use Rattle.reh_cut.proofs.checks.begin_alike.Goals as goal

pub returns-then-not-is_same_fragment_at : goal.returns-then-not-is_same_fragment_at
returns-then-not-is_same_fragment_at c =
    sym (fails_at _ _ c.loop-index.index c.loop-index-test.true (sym c.is_same_fragment_at.ensures ∙ c.if-not-is_same_fragment_at.true))
