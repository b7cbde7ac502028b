-- A ledger more: it isn't in recovery, or it was.
use Rattle.std.proofs.Common.{◌∙◌, sym, true≢false}
use Rattle.reh_plan.proofs.EndLaws.{among-more}
use Rattle.reh_plan.proofs.ends.is_harmless.Goals as goal
use Rattle.reh_plan.proofs.ends.is_harmless.Goals.{else-is_recovering-via-then-is_recovering+else-not-is_flagged, else-is_recovering-via-else-is_recovering}

pub loop-place-preserved : goal.loop-place-preserved
loop-place-preserved c =
    among-more c.ledgers-ledger-items.result.now c.args.recovering.now c.loop-place.place c.ledger-item.result
    c.loop-place-test.true c.ledger-item.is c.loop-place.invariant
    (elim c.else-is_recovering.branch [
      | else-is_recovering-via-then-is_recovering+else-not-is_flagged w ↦ λ _. sym w.is_flagged.ensures ∙ w.if-not-is_flagged.false
      | else-is_recovering-via-else-is_recovering w ↦ λ is. absurd (true≢false (sym is ∙ sym c.is_recovering.ensures ∙ w.if-is_recovering.false))
    ])
