-- One that fails is enough.
use Rattle.std.proofs.Common.{◌∙◌, sym}
use Rattle.reh_cut.proofs.RangeLaws.{fails_at}
use Rattle.reh_cut.proofs.checks.begin_with.Goals as goal

pub returns-then-not-is_same_member : goal.returns-then-not-is_same_member
returns-then-not-is_same_member c =
    sym (fails_at _ _ c.loop-index.index c.loop-index-test.true (sym c.is_same_member.ensures ∙ c.if-not-is_same_member.true))
