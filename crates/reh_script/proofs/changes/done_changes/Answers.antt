use Rattle.std.proofs.Common.{sym}
use Rattle.reh_script.proofs.ChangeLaws.{made_last, there_last}
use Rattle.reh_script.proofs.changes.done_changes.Goals as goal

pub returns-in-Some-clause-made : goal.returns-in-Some-clause-made
returns-in-Some-clause-made c = λ before many back.
    made_last c.args.session.now _ c.as_slice.result.now c.records.ensures.trail
    (rw (sym c.as_slice.ensures.list) at (rw c.done-survivors.ensures at c.in-Some.ensures.value)) before back

pub returns-in-Some-clause-there : goal.returns-in-Some-clause-there
returns-in-Some-clause-there c =
    there_last c.args.session.now _ c.as_slice.result.now c.records.ensures.trail
    (rw (sym c.as_slice.ensures.list) at (rw c.done-survivors.ensures at c.in-Some.ensures.value))
