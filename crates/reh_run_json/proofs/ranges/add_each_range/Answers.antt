-- One entry more is passed, and at the end the open range is added.
use Rattle.std.proofs.Common.{arith}
use Rattle.reh_run_json.proofs.RangeLaws.{all_passed, passed}
use Rattle.reh_run_json.proofs.ranges.add_each_range.Goals as goal

pub loop-i-preserved : goal.loop-i-preserved
loop-i-preserved c = record {
  begun = λ x is. omega (arith, c.in_ok-since.ensures.begun x is);
  added =
      passed c.args.number c.args.bits c.loop-i.since c.loop-i.i _ _ _ _ _ _ (omega arith) c.is_bit_set.ensures
      c.in_ok-since.ensures.next c.loop-i.invariant.added c.in_ok-since.ensures.added;
}

pub returns : goal.returns
returns c =
    all_passed c.args.number c.args.bits c.loop-i.since c.loop-i.i _ _ _ (omega arith) c.loop-i.invariant.added
    c.in_ok-pass.ensures.added
