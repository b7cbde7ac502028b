-- One bookie more.
use Rattle.std.proofs.Common.{◌+◌}
use Rattle.reh_picture_out.proofs.HoldingLaws.{Adds-nothing, Adds-then, below-next, below-none, is_below, is_of}
use Rattle.reh_picture_out.proofs.contents.push_contents.Goals as goal

pub loop-bookie-init : goal.loop-bookie-init
loop-bookie-init c =
    Adds-nothing c.args.state.now.names c.args.state.now.parts.held c.args.told.now (is_below 0 c.args.ledger.now.id) (below-none c.args.ledger.now.id) _

pub loop-bookie-preserved : goal.loop-bookie-preserved
loop-bookie-preserved c =
    Adds-then c.args.state.now.names c.args.state.now.parts.held c.args.told.now
    (is_below c.loop-bookie.bookie c.args.ledger.now.id) (is_of c.loop-bookie.bookie c.args.ledger.now.id)
    (is_below (c.loop-bookie.bookie + 1) c.args.ledger.now.id) _ _ _
    c.loop-bookie.invariant c.in_ok-ranges.ensures (below-next c.loop-bookie.bookie c.args.ledger.now.id)
