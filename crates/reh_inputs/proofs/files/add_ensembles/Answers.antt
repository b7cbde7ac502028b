-- One more.
use Rattle.std.proofs.Common.{◌∙◌, ap}
use Rattle.reh_inputs.specs.Renumbered.{counted_ensemble_by}
use Rattle.reh_inputs.proofs.RangeLaws.{pushed-after}
use Rattle.reh_inputs.proofs.files.add_ensembles.Goals as goal

pub loop-one-preserved : goal.loop-one-preserved
loop-one-preserved c =
    let make = counted_ensemble_by c.args.numbers.now in
    pushed-after make c.args.counted.now c.loop-one.one-index c.one-item.result c.loop-one.ensembles.items c.push.new.self.items
    c.in_ok-counted_ensemble_by.field-0 c.loop-one-test.true c.in_ok-push.ensures.items (c.in_ok-counted_ensemble_by.ensures ∙ ap make c.one-item.is)
    c.args.ensembles.now.items c.loop-one.invariant
