-- Both are there; or the fault is that of one.
use Rattle.std.proofs.Common.{◌++◌, MatchResult, inl, inr, subst, sym}
use Rattle.std.proofs.lemmas.Result.{MatchResult-at_err}
use Rattle.reh_inputs.specs.declared.gathered.GatherFault.{GatherFault}
use Rattle.reh_inputs.specs.Parts.{IsPart}
use Rattle.reh_inputs.specs.Uncounted.{IsPartFault}
use Rattle.reh_inputs.proofs.PartLaws.{fault_back, fault_front}
use Rattle.reh_inputs.proofs.parts.both.Goals as goal

pub returns-in-Ok-Ok : goal.returns-in-Ok-Ok
returns-in-Ok-Ok c holders names strict first next before behind from one other =
    c.joined.ensures holders names strict first before behind
    (subst (λ r. MatchResult r (IsPart holders names strict before) (IsPartFault holders names strict first before))
    c.in-Ok-Ok.is-0 one)
    (subst (λ r. MatchResult r (IsPart holders names strict behind) (IsPartFault holders names strict next behind))
    c.in-Ok-Ok.is-1 other)

pub returns-in-Ok-Err : goal.returns-in-Ok-Err
returns-in-Ok-Err c holders names strict first next before behind from one other =
    fault_back holders names before behind strict first next from c.in-Ok-Err.fault
    (MatchResult-at_err (IsPart holders names strict behind) (IsPartFault holders names strict next behind)
    c.in-Ok-Err.fault c.in-Ok-Err.is-1 other)

pub returns-in-Err-default : goal.returns-in-Err-default
returns-in-Err-default c holders names strict first next before behind from one other =
    elim c.told_first.ensures [
      | inl same ↦
          subst (λ (fault : GatherFault). IsPartFault holders names strict first (before ++ behind) fault) (sym same)
          (fault_front holders names before behind strict first c.in-Err-default.fault
          (MatchResult-at_err (IsPart holders names strict before) (IsPartFault holders names strict first before)
          c.in-Err-default.fault c.in-Err-default.is-0 one))
      | inr is ↦
          fault_back holders names before behind strict first next from c.told_first.result
          (MatchResult-at_err (IsPart holders names strict behind) (IsPartFault holders names strict next behind)
          c.told_first.result is other)
    ]
