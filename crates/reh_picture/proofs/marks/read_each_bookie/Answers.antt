-- One bookie more is read, and its marks join the others.
use Rattle.reh_picture.specs.Marks.{bookie_marks, each_marks_fault}
use Rattle.reh_picture.proofs.MarksLemmas.{bookie_marks_at}
use Rattle.reh_picture.proofs.Lists.{HasMade-next}
use Rattle.reh_picture.proofs.Walks.{IsLeft-all, IsLeft-fails, HasMade-all}
use Rattle.reh_picture.proofs.marks.read_each_bookie.Goals as goal

pub loop-i-preserved : goal.loop-i-preserved
loop-i-preserved c =
    HasMade-next bookie_marks_at bookie_marks c.args.bookies.now c.loop-i.i c.index-bookies-i.result c.loop-i-test.true
    c.index-bookies-i.is c.loop-i.marks.items _ c.loop-i.invariant c.in_ok-add_bookie.ensures.fault
    c.in_ok-add_bookie.ensures.marks

pub returns-in_err-add_bookie-clause-fault : goal.returns-in_err-add_bookie-clause-fault
unfolding each_marks_fault
returns-in_err-add_bookie-clause-fault c =
    IsLeft-fails bookie_marks_at c.args.bookies.now c.loop-i.i c.index-bookies-i.result c.loop-i-test.true
    c.index-bookies-i.is c.loop-i.invariant.left c.from_residual.result c.in_err-add_bookie.field-0.0
    c.from_residual.ensures.1 c.in_err-add_bookie.ensures.fault

pub returns-clause-fault : goal.returns-clause-fault
unfolding each_marks_fault
returns-clause-fault c =
    IsLeft-all bookie_marks_at c.args.bookies.now c.loop-i.i c.loop-i-test.false c.loop-i.invariant.left

pub returns-clause-marks : goal.returns-clause-marks
returns-clause-marks c =
    HasMade-all bookie_marks_at bookie_marks c.args.bookies.now c.loop-i.i _ c.loop-i-test.false c.loop-i.invariant
