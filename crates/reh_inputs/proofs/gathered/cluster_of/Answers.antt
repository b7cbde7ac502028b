-- One input more is united with the others, and those before are shown as they were; the cluster of the inputs before is the one
-- that a bookie can't be of.
use Rattle.std.proofs.Common.{◌∙◌, All, List, ap, get_or, subst, sym, take, arith, Option}
use Rattle.std.proofs.lemmas.List.{take_all}
use Rattle.std.proofs.lemmas.List.Elements.{All-more}
use Rattle.std.proofs.lemmas.List.Sums.{fold_more}
use Rattle.reh_inputs.specs.Cluster.{Cluster, no_bookies}
use Rattle.reh_inputs.specs.United.{AreAlike, united, with_input}
use Rattle.reh_inputs.specs.declared.inputs.Input.{Input}
use Rattle.reh_inputs.proofs.AlikeLaws.{AreAlike-kept}
use Rattle.std.specs.Option.{IsSomeAnd}
use Rattle.reh_model.proofs.ListLaws.{slice_get-there}
use Rattle.reh_inputs.specs.Faults.{IsUniteFault}
use Rattle.reh_inputs.proofs.gathered.cluster_of.Goals as goal

pub loop-input-preserved : goal.loop-input-preserved
loop-input-preserved c =
    let inputs = c.args.inputs.now in
    let i = c.loop-input.input in
    let one = c.index-inputs-input.result in
    let before = c.loop-input.cluster in
    let after = c.unite.new.cluster in
    let step = c.in-Ok.ensures in (
      step.added
          ∙ ap (λ (k : Cluster). with_input k one) c.loop-input.invariant.0
          ∙ ap (with_input (united (take i inputs))) c.index-inputs-input.is
          ∙ sym (fold_more with_input no_bookies inputs i one c.loop-input-test.true),
      All-more (AreAlike after) inputs i one c.loop-input-test.true
          (λ k d within. AreAlike-kept before after step.kept (get_or (take i inputs) k d) (c.loop-input.invariant.1 k d within))
          (subst (AreAlike after) c.index-inputs-input.is step.alike),
    )

pub returns-clause-agree : goal.returns-clause-agree
returns-clause-agree c =
    let inputs = c.args.inputs.now in
    subst (λ (xs : List Input). All (AreAlike c.loop-input.cluster) xs)
    (take_all c.loop-input.input inputs (omega (arith, c.loop-input-test.false))) c.loop-input.invariant.1

pub returns-clause-united : goal.returns-clause-united
returns-clause-united c =
    let inputs = c.args.inputs.now in
    c.loop-input.invariant.0 ∙ ap united (take_all c.loop-input.input inputs (omega (arith, c.loop-input-test.false)))

pub returns-in-Err-clause-fault : goal.returns-in-Err-clause-fault
returns-in-Err-clause-fault c strict =
    let inputs = c.args.inputs.now in
    let k = c.loop-input.input in
    let one = c.index-inputs-input.result in
    let fault = c.in-Err.fault in
    c.bookie_fault.ensures inputs strict
    (subst (λ (o : Option Input). IsSomeAnd o (λ one. IsUniteFault (united (take k inputs)) one fault.bookie fault.fault))
    (sym (slice_get-there inputs k one c.loop-input-test.true c.index-inputs-input.is))
    (subst (λ (cluster : Cluster). IsUniteFault cluster one fault.bookie fault.fault) c.loop-input.invariant.0 c.in-Err.ensures.fault))
