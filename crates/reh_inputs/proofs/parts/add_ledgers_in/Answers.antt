-- The numbers are those of the picture's bookies.
use Rattle.std.proofs.Common.{◌≡◌, ◌∙◌, ℕ, List, IfErr, subst, sym}
use Rattle.reh_inputs.specs.declared.inputs.Input.{Input}
use Rattle.reh_inputs.specs.Uncounted.{HasUnfit, InputHasUnfit, IsUnfitFault}
use Rattle.reh_inputs.proofs.parts.add_ledgers_in.Goals as goal

pub returns-clause-fault : goal.returns-clause-fault
returns-clause-fault c =
    subst (λ (one : Input).
    IfErr c.add_ledgers.result
    (IsUnfitFault (λ number id. (number ≡ c.args.input) × InputHasUnfit c.args.names.now c.args.reading one id)))
    (sym c.in-Picture.is)
    (subst (λ (numbers : List ℕ).
    IfErr c.add_ledgers.result
    (IsUnfitFault (λ number id. (number ≡ c.args.input) × HasUnfit numbers c.args.reading c.in-Picture.listed id)))
    (c.deref.ensures.value ∙ c.in_ok-numbers.ensures) c.add_ledgers.ensures.fault)
