-- The tasks that an audit changes are the only differences.
use Rattle.std.proofs.Common.{arith}
use Rattle.reh_types.specs.declared.moves.Event.TheVariants.{Audit}
use Rattle.reh_step.proofs.RecordLaws.{decided, audit_listed}
use Rattle.reh_step.proofs.records.audit.Goals as goal

pub of-requires : goal.of-requires
of-requires c =
    (audit_listed c.args.state.now c.ledgers-ledgers.result.now c.loop-place.place c.loop-place.list.items
    c.ledgers-ledgers.ensures.well_formed c.in_ok-check_audit.ensures c.ledgers-ledgers.ensures.ledgers (omega arith)
    c.loop-place.invariant).rising

pub returns : goal.returns
returns c =
    decided c.args.state.now Audit _ c.of.result c.in_ok-check_audit.ensures c.of.ensures
    (audit_listed c.args.state.now c.ledgers-ledgers.result.now c.loop-place.place c.loop-place.list.items
    c.ledgers-ledgers.ensures.well_formed c.in_ok-check_audit.ensures c.ledgers-ledgers.ensures.ledgers (omega arith)
    c.loop-place.invariant)
