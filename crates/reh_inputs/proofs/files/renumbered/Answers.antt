-- One bookie more.
use Rattle.reh_inputs.specs.Ledgers.{number_in}
use Rattle.reh_inputs.proofs.RangeLaws.{pushed}
use Rattle.reh_inputs.proofs.files.renumbered.Goals as goal

pub loop-bookie-preserved : goal.loop-bookie-preserved
loop-bookie-preserved c =
    pushed (number_in c.args.numbers.now) c.as_slice-listed.result.now c.loop-bookie.bookie-index 0 c.loop-bookie.made.items
    c.push.new.self.items c.number_by.result c.loop-bookie-test.true c.in_ok-push.ensures.items c.number_by.ensures c.loop-bookie.invariant
