-- One member more.
use Rattle.std.proofs.Common.{◌∙◌, ap}
use Rattle.reh_inputs.specs.Ledgers.{number_in}
use Rattle.reh_inputs.proofs.RangeLaws.{pushed}
use Rattle.reh_inputs.proofs.ledgers.members_of.Goals as goal

pub loop-bookie-preserved : goal.loop-bookie-preserved
loop-bookie-preserved c =
    let number = number_in c.args.numbers.now in
    pushed number c.args.ensemble.now c.loop-bookie.bookie-index c.bookie-item.result c.loop-bookie.members.items c.push.new.self.items
    c.number_of.result c.loop-bookie-test.true c.in_ok-push.ensures.items (c.number_of.ensures ∙ ap number c.bookie-item.is)
    c.loop-bookie.invariant
