use Rattle.std.proofs.Common.{◌≡◌, ◌∙◌, sym, ap, None, Some, Err}
use Rattle.reh_drill.specs.Drills.{first_fault, is_lost, is_lost_play}
use Rattle.reh_drill.proofs.Drilled.{lost_play, ends_short, ends_closing}
use Rattle.reh_drill.proofs.drills.end_drill.Goals as goal

pub returns-in-Err-clause-ends : goal.returns-in-Err-clause-ends
returns-in-Err-clause-ends g c =
    ends_short c.args.desk c.args.outcomes.items c.in-Err.lost (Err c.from.result) _ _
    (rw c.deref.ensures.value at c.in-Err.ensures.written) c.from.ensures

pub returns-in-Some-clause-write : goal.returns-in-Some-clause-write
returns-in-Some-clause-write g c =
    let first : first_fault c.args.outcomes.items ≡ Some c.in-Some.fault = cc in
    c.in_default.ensures.failed
    ∙ sym
    (ap (λ f. is_lost (Err f)) c.from-in-Some.ensures ∙ lost_play c.in-Some.fault ∙ sym (ap is_lost_play first)
    ∙ c.requires.kept)

pub returns-in-Ok-clause-ends : goal.returns-in-Ok-clause-ends
returns-in-Ok-clause-ends g c =
    let fine : first_fault c.args.outcomes.items ≡ None = cc in
    ends_closing c.args.desk c.args.outcomes.items c.in-Ok.seats.items c.close_desk.result _ _ _ fine
    c.in-Ok.ensures (rw c.deref.ensures.value at c.in_default.ensures.written)
    c.close_desk.ensures.closes
