-- What one input more counts.
use Rattle.reh_inputs.specs.Inputs.{of_census}
use Rattle.reh_inputs.specs.Renumbered.{ensembles_in, entries_in, tails_in}
use Rattle.reh_inputs.proofs.RangeLaws.{joined-after}
use Rattle.reh_inputs.proofs.files.add_files.Goals as goal

pub loop-input-preserved : goal.loop-input-preserved
loop-input-preserved c =
    let names = c.args.names.now in
    let was = c.loop-input.invariant in
    let adds = c.in_ok-add_file.ensures in (
      joined-after (of_census (entries_in names)) c.args.inputs.now c.loop-input.input-index c.input-item.result
          c.loop-input.counts.entries.items c.add_file.new.counts.entries.items c.loop-input-test.true c.input-item.is adds.entries
          c.args.counts.now.entries.items was.0,
      joined-after (of_census (tails_in names)) c.args.inputs.now c.loop-input.input-index c.input-item.result
          c.loop-input.counts.tails.items c.add_file.new.counts.tails.items c.loop-input-test.true c.input-item.is adds.tails
          c.args.counts.now.tails.items was.1,
      joined-after (of_census (ensembles_in names)) c.args.inputs.now c.loop-input.input-index c.input-item.result
          c.loop-input.counts.ensembles.items c.add_file.new.counts.ensembles.items c.loop-input-test.true c.input-item.is adds.ensembles
          c.args.counts.now.ensembles.items was.2,
      adds.well_formed was.3,
    )
