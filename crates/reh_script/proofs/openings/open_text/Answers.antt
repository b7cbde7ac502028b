use Rattle.std.proofs.Common.{arith}
use Rattle.reh_script.proofs.OpeningLaws.{opens_failed, opens_judged, opens_none}
use Rattle.reh_script.proofs.openings.open_text.Goals as goal

pub returns-in_err-text-clause-opens : goal.returns-in_err-text-clause-opens
returns-in_err-text-clause-opens g c = opens_none _ _ _ _ c.in_err-text.ensures.failed c.from_residual.ensures.1

pub returns-then-text-clause-opens : goal.returns-then-text-clause-opens
returns-then-text-clause-opens g c =
    opens_failed _ c.in_ok-text.text.failed _ c.in_ok-text.text.bytes.items _ _ c.in_ok-text.ensures.failed
    c.if-text.true c.in_ok-text.ensures.reads

pub returns-clause-opens : goal.returns-clause-opens
returns-clause-opens g c =
    opens_judged _ c.in_ok-text.text.failed _ c.in_ok-text.text.bytes.items _ _ _ c.in_ok-text.ensures.failed
    c.if-text.false c.in_ok-text.ensures.reads (omega arith) (rw c.deref.ensures.value at c.open_picture.ensures)
