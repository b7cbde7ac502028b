-- There are as many copies as the write quorums.
use Rattle.std.proofs.Common.{◌∙◌, ap, sym, arith, ℕ, length, length-take, take}
use Rattle.reh_model.specs.Metadata.{Metadata}
use Rattle.reh_plan.proofs.RacksLaws.{long_copies}
use Rattle.reh_plan.proofs.racks.is_fewer.Goals as goal

pub slice_bounds-old-end : goal.slice_bounds-old-end
slice_bounds-old-end c =
    let m : Metadata = c.args.before.now in
    omega (
      arith,
      c.write_quorum.ensures,
      length-take m.write_quorum c.copy_racks-old.result,
      long_copies c.copy_racks-old.result c.args.old.now c.args.entry m.size m.write_quorum c.copy_racks-old.ensures,
    )

pub slice_bounds-may_be_fewer-end : goal.slice_bounds-may_be_fewer-end
slice_bounds-may_be_fewer-end c =
    let m : Metadata = c.args.before.now in
    sym
    (ap (λ (q : ℕ). length (take q c.copy_racks-old.result)) c.write_quorum.ensures
    ∙ long_copies c.copy_racks-old.result c.args.old.now c.args.entry m.size m.write_quorum c.copy_racks-old.ensures
    ∙ sym c.write_quorum.ensures)

pub slice_bounds-new-end : goal.slice_bounds-new-end
slice_bounds-new-end c =
    let m : Metadata = c.args.after.now in
    omega (
      arith,
      c.write_quorum-2.ensures,
      length-take m.write_quorum c.copy_racks-new.result,
      long_copies c.copy_racks-new.result c.args.new.now c.args.entry m.size m.write_quorum c.copy_racks-new.ensures,
    )

pub slice_bounds-may_be_fewer-end-2 : goal.slice_bounds-may_be_fewer-end-2
slice_bounds-may_be_fewer-end-2 c =
    let m : Metadata = c.args.after.now in
    sym
    (ap (λ (q : ℕ). length (take q c.copy_racks-new.result)) c.write_quorum-2.ensures
    ∙ long_copies c.copy_racks-new.result c.args.new.now c.args.entry m.size m.write_quorum c.copy_racks-new.ensures
    ∙ sym c.write_quorum-2.ensures)
