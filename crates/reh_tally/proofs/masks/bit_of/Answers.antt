use Rattle.std.proofs.Common.{◌≤◌, length, drop, arith, length-drop}
use Rattle.std.specs.Prelude.{◌==◌}
use Rattle.reh_tally.proofs.MaskLaws.{mask-room}
use Rattle.reh_tally.proofs.masks.bit_of.Goals as goal

pub with_bit-mask-requires : goal.with_bit-mask-requires
with_bit-mask-requires c =
    let few : length (drop c.loop-index.index c.args.members.now) ≤ 63 =
    omega (arith, length-drop c.loop-index.index c.args.members.now, c.requires, c.loop-index-test.true) in
    omega (arith, c.loop-index.invariant.bits, mask-room (λ member. c.args.bookie == member) (drop c.loop-index.index c.args.members.now) few)
