use Rattle.std.proofs.Common.{◌∙◌, ◌≤◌, length, drop, ap, arith, length-drop}
use Rattle.reh_census.specs.declared.ledgers.Told.{Told}
use Rattle.reh_census.specs.Ledgers.{is_untold}
use Rattle.reh_tally.specs.declared.cursors.Cursor.{Cursor}
use Rattle.reh_tally.specs.Cursors.{told_at}
use Rattle.reh_tally.proofs.MaskLaws.{mask-more, mask-room}
use Rattle.reh_tally.proofs.cursors.untold_of.Goals as goal

pub with_bit-mask-requires : goal.with_bit-mask-requires
with_bit-mask-requires c =
    let few : length (drop c.loop-index.index c.args.cursors.now) ≤ 63 =
    omega (arith, length-drop c.loop-index.index c.args.cursors.now, c.requires, c.loop-index-test.true) in
    omega (arith, c.loop-index.invariant.bits, mask-room (λ (d : Cursor). is_untold (told_at c.args.ledger.now d.content)) (drop c.loop-index.index c.args.cursors.now) few)

pub loop-index-preserved : goal.loop-index-preserved
loop-index-preserved c = record {
  within = omega (arith, c.loop-index.invariant.within);
  bits =
      mask-more (λ (d : Cursor). is_untold (told_at c.args.ledger.now d.content)) c.args.cursors.now c.loop-index.index _ c.loop-index.mask
      c.with_bit-mask.result c.is_untold.result c.loop-index-test.true c.loop-index.invariant.within c.loop-index.invariant.bits
      (c.is_untold.ensures ∙ ap (λ (told : Told). is_untold told) c.told_at-told.ensures) c.with_bit-mask.ensures;
}
