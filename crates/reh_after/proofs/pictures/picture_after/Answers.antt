-- What was begun leads to the state at the end.
use Rattle.std.proofs.Common.{string_bytes}
use Rattle.std.specs.Prelude.{IfErr, IfOk, Ok, Err}
use Rattle.reh_after.specs.After.{IsAfter, IsEnd}
use Rattle.reh_after.specs.Faults.{IsAfterFault, IsEndFault}
use Rattle.reh_after.specs.declared.pictures.Begun.{Begun}
use Rattle.reh_after.proofs.AfterLaws.{never_begun, never_ended, passed_on}
use Rattle.reh_after.proofs.pictures.picture_after.Goals as goal

pub returns-clause-after : goal.returns-clause-after
returns-clause-after c =
    let begun : Begun = c.in_ok-begun.begun in
    elim c.end_of-text.result as (λ r. IfOk r (λ text. IsEnd begun c.args.script.now c.args.all_known (string_bytes text))
    → IfOk r (λ text. IsAfter c.args.picture.now c.args.script.now c.args.all_known (string_bytes text))) [
      | Ok text ↦ λ ends. record { begun = begun; is_begun = c.in_ok-begun.ensures.begun; ends = ends }
      | Err fault ↦ λ none. none
    ] c.end_of-text.ensures.end

pub returns-in_err-begun-clause-fault : goal.returns-in_err-begun-clause-fault
returns-in_err-begun-clause-fault c =
    passed_on c.from_residual.result (IsAfterFault c.args.picture.now c.args.script.now c.args.all_known)
    c.in_err-begun.field-0.0 c.from_residual.ensures.1
    (never_begun c.args.picture.now c.args.script.now c.args.all_known _ c.in_err-begun.ensures.fault)

pub returns-clause-fault : goal.returns-clause-fault
returns-clause-fault c =
    let begun : Begun = c.in_ok-begun.begun in
    elim c.end_of-text.result as (λ r. IfErr r (IsEndFault begun c.args.script.now c.args.all_known)
    → IfErr r (IsAfterFault c.args.picture.now c.args.script.now c.args.all_known)) [
      | Ok text ↦ λ none. tt
      | Err fault ↦ λ is. never_ended _ _ _ begun fault c.in_ok-begun.ensures.begun is
    ] c.end_of-text.ensures.fault
