-- The ids of one list more can't join those before.
use Rattle.std.proofs.Common.{◌∙◌, ◌++◌, ap, subst, Global, List, Vec, ℕ}
use Rattle.reh_model.proofs.ListLaws.{slice_get-there}
use Rattle.reh_inputs.specs.Uncounted.{IsIdFault}
use Rattle.reh_inputs.proofs.FaultLaws.{list_fault, passed_on}
use Rattle.reh_inputs.proofs.RangeLaws.{joined}
use Rattle.reh_inputs.proofs.apart.check_ids.Goals as goal

pub loop-input-preserved : goal.loop-input-preserved
loop-input-preserved c =
    let ids : Vec ℕ Global = c.index-lists-input.result in
    joined (λ (list : Vec ℕ Global). list.items) c.args.lists.now c.loop-input.input ids c.loop-input.seen.keys c.add_ids.new.seen.keys
    c.loop-input-test.true c.index-lists-input.is
    (c.in_ok-add_ids.ensures.added ∙ ap (λ (more : List ℕ). c.loop-input.seen.keys ++ more) c.deref.ensures.value) c.loop-input.invariant

pub returns-in_err-add_ids-clause-fault : goal.returns-in_err-add_ids-clause-fault
returns-in_err-add_ids-clause-fault c =
    let lists = c.args.lists.now in
    let k = c.loop-input.input in
    let ids = c.index-lists-input.result in
    let fault = c.in_err-add_ids.field-0.0 in
    passed_on _ _ c.from_residual.result fault c.from_residual.ensures.1
    (list_fault lists k ids c.loop-input.seen.keys
    (slice_get-there lists k ids c.loop-input-test.true c.index-lists-input.is) c.loop-input.invariant fault
    (subst (λ (list : List ℕ). IsIdFault k c.loop-input.seen.keys list fault) c.deref.ensures.value c.in_err-add_ids.ensures.fault))
