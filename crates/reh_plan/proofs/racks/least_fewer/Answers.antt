-- One write set more.
use Rattle.std.proofs.Common.{◌∙◌, ap, sym, Bool, ℕ, Some, map, min, slice_index}
use Rattle.std.specs.Option.{option_map_or}
use Rattle.reh_model.specs.Metadata.{Metadata}
use Rattle.reh_model.specs.Striping.{write_set}
use Rattle.reh_plan.specs.Racks.{least_racks, may_be_fewer}
use Rattle.reh_plan.proofs.RacksLaws.{fewest_kept, fewest_more}
use Rattle.reh_plan.proofs.racks.least_fewer.Goals as goal
use Rattle.reh_plan.proofs.racks.least_fewer.Goals.{then-is_fewer, else-is_fewer}

pub loop-entry-preserved : goal.loop-entry-preserved
loop-entry-preserved c =
    let m : Metadata = c.args.before.now in
    let n : Metadata = c.args.after.now in
    let k : ℕ = c.loop-entry.entry in
    let racks : ℕ → ℕ = λ e. least_racks (map (slice_index c.args.new.now) (write_set e n.size n.write_quorum)) in
    let fewer : ℕ → Bool = λ e. may_be_fewer c.args.least
    (map (slice_index c.args.old.now) (write_set e m.size m.write_quorum))
    (map (slice_index c.args.new.now) (write_set e n.size n.write_quorum)) in
    elim c.if-is_fewer.branch [
      | then-is_fewer w ↦
          w.fewest-is
          ∙ ap Some w.lesser.ensures
          ∙ (λ i. Some (option_map_or (λ so_far. min so_far (w.racks_at.ensures i)) (c.loop-entry.invariant i) (w.racks_at.ensures i)))
          ∙ sym (fewest_more racks fewer k (sym c.is_fewer.ensures ∙ w.if-is_fewer.true))
      | else-is_fewer w ↦
          w.fewest-is
          ∙ c.loop-entry.invariant
          ∙ sym (fewest_kept racks fewer k (sym c.is_fewer.ensures ∙ w.if-is_fewer.false))
    ]
