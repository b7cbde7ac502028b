-- There are as many copies as the write quorum.
use Rattle.std.proofs.Common.{◌∙◌, ap, sym, arith, ℕ, length, length-take, take}
use Rattle.reh_model.specs.Metadata.{Metadata}
use Rattle.reh_plan.proofs.RacksLaws.{long_copies}
use Rattle.reh_plan.proofs.racks.racks_at.Goals as goal

pub slice_bounds-copies-end : goal.slice_bounds-copies-end
slice_bounds-copies-end c =
    let m : Metadata = c.args.metadata.now in
    omega (
      arith,
      c.write_quorum.ensures,
      length-take m.write_quorum c.copy_racks-copies.result,
      long_copies c.copy_racks-copies.result c.args.racks.now c.args.entry m.size m.write_quorum c.copy_racks-copies.ensures,
    )

pub slice_bounds-least_racks-end : goal.slice_bounds-least_racks-end
slice_bounds-least_racks-end c =
    let m : Metadata = c.args.metadata.now in
    sym
    (ap (λ (q : ℕ). length (take q c.copy_racks-copies.result)) c.write_quorum.ensures
    ∙ long_copies c.copy_racks-copies.result c.args.racks.now c.args.entry m.size m.write_quorum c.copy_racks-copies.ensures
    ∙ sym c.write_quorum.ensures)
