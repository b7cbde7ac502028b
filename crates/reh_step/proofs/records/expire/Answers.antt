-- The locks of the worker that go are the only differences.
use Rattle.std.proofs.Common.{arith}
use Rattle.reh_types.specs.declared.moves.Event.TheVariants.{Expire}
use Rattle.reh_step.proofs.RecordLaws.{decided, expire_listed}
use Rattle.reh_step.proofs.records.expire.Goals as goal

pub of-requires : goal.of-requires
of-requires c =
    (expire_listed c.args.state.now c.args.worker c.ledgers-ledgers.result.now c.loop-place.place
    c.loop-place.list.items c.ledgers-ledgers.ensures.well_formed c.in_ok-check_expire.ensures
    c.ledgers-ledgers.ensures.ledgers (omega arith) c.loop-place.invariant).rising

pub returns : goal.returns
returns c =
    decided c.args.state.now (Expire c.args.worker) _ c.of.result c.in_ok-check_expire.ensures c.of.ensures
    (expire_listed c.args.state.now c.args.worker c.ledgers-ledgers.result.now c.loop-place.place
    c.loop-place.list.items c.ledgers-ledgers.ensures.well_formed c.in_ok-check_expire.ensures
    c.ledgers-ledgers.ensures.ledgers (omega arith) c.loop-place.invariant)
