-- One range more, which ends where it begins or later, has its last entry noted as its greatest.
use Rattle.std.proofs.Common.{ap, ◌∙◌}
use Rattle.std.specs.BTreeMap.{get}
use Rattle.std.specs.Ordering.{nat_cmp}
use Rattle.reh_picture.specs.Contents.{Holding}
use Rattle.reh_picture.proofs.Greatest.{IsGreatest-next}
use Rattle.reh_picture.proofs.contents.note_ends.Goals as goal

pub loop-range-preserved : goal.loop-range-preserved
loop-range-preserved c = λ contents is.
    IsGreatest-next (get nat_cmp c.loop-range.ends) (get nat_cmp c.note_end.new.ends) contents c.holding.inside.bookie
    c.holding.inside.ledger c.deref-range-items.result.now c.args.holding.now.ranges c.loop-range.range-index _
    c.loop-range-test.true
    (c.deref-range-items.ensures.value ∙ ap (λ (h : Holding). h.ranges) c.holding.view_is) c.requires
    (c.loop-range.invariant contents is) c.in_ok-note_end.ensures
