-- One word more has the bits of the range.
use Rattle.std.proofs.Common.{◌<◌, ℕ, List, length, arith}
use Rattle.reh_held.proofs.RangeLaws.{filling-more}
use Rattle.reh_held.proofs.rows.set_range.Goals as goal

pub loop-number-preserved : goal.loop-number-preserved
loop-number-preserved c =
    let now : List ℕ = c.loop-number.words.items in
    let within : c.loop-number.number < length now = omega (arith, c.loop-number.invariant.width) in
    filling-more c.args.words.now.items now c.args.first c.args.last c.loop-number.number c.bits_between.result
    c.index_mut.result.now within c.index_mut.ensures.value c.bits_between.ensures c.loop-number.invariant
