-- One copy more.
use Rattle.std.proofs.Common.{◌≡◌, ◌∙◌, ◌<◌, ap, sym, subst, rules, refl, arith, length-set, suc, ℕ, List, All, length, map, slice_index}
use Rattle.std.proofs.lemmas.List.Elements.{All-tail}
use Rattle.reh_model.specs.Metadata.{Metadata, IsMetadata}
use Rattle.reh_model.specs.Striping.{write_set}
use Rattle.reh_scan.proofs.ReadingLaws.{first_within, write_set_within}
use Rattle.reh_plan.proofs.RacksLaws.{copy_more, long_writes}
use Rattle.reh_plan.proofs.racks.copy_racks.Goals as goal

pub loop-index-init : goal.loop-index-init
loop-index-init c =
    let m : Metadata = c.args.metadata.now in
    let indexes : c.into_iter-index-iterator.result ≡ write_set c.args.entry m.size m.write_quorum = search rules in
    record {
      room =
          omega
          (arith, ap (λ (is : List ℕ). length is) indexes ∙ long_writes c.args.entry m.size m.write_quorum);
      whole = refl;
      within =
          subst (λ (is : List ℕ). All (λ i. i < m.size) is) (sym indexes)
          (write_set_within m c.args.entry c.size.ensures.well_formed);
      done = ap (λ (is : List ℕ). map (slice_index c.args.racks.now) is) indexes;
    }

pub bounds-racks-index : goal.bounds-racks-index
bounds-racks-index c =
    let rules_of : IsMetadata c.args.metadata.now = c.size.ensures.well_formed in
    let below = first_within _ _ _ _ c.in-Some.ensures.steps c.loop-index.invariant.within in
    omega (arith, below, rules_of.small)

pub loop-index-preserved : goal.loop-index-preserved
loop-index-preserved c =
    let m : Metadata = c.args.metadata.now in
    let rules_of : IsMetadata m = c.size.ensures.well_formed in
    let was = c.loop-index.invariant in
    let shorter : length c.loop-index.index-iterator ≡ suc (length c.next.new.self) =
    ap (λ (is : List ℕ). length is) c.in-Some.ensures.steps in
    record {
      room = omega (arith, shorter, was.room);
      whole = length-set c.loop-index.copies c.loop-index.count _ ∙ was.whole;
      within =
          All-tail (λ i. i < m.size) _ _
          (subst (λ (is : List ℕ). All (λ i. i < m.size) is) c.in-Some.ensures.steps was.within);
      done =
          copy_more c.loop-index.copies c.args.racks.now c.loop-index.count c.in-Some.index _ _ c.loop-index.index-iterator
          c.next.new.self (omega (arith, was.whole, was.room, shorter, rules_of.small, rules_of.writes_within)) refl
          c.in-Some.ensures.steps was.done;
    }
