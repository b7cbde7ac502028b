-- A member that is marked counts, and another does not.
use Rattle.std.proofs.Common.{◌≡◌, ◌∙◌, ◌<◌, ◌≤◌, ◌+◌, ap, sym, subst, rules, arith, true, false, Bool, List, ℕ, suc}
use Rattle.std.proofs.Common.{All, cond, length}
use Rattle.std.specs.Prelude.{count_by}
use Rattle.std.proofs.lemmas.List.Elements.{All-tail}
use Rattle.std.proofs.lemmas.List.Sums.{sum_by-cons}
use Rattle.reh_model.specs.Striping.{write_set}
use Rattle.reh_model.specs.Metadata.{Metadata, IsMetadata}
use Rattle.reh_step.specs.Marks.{is_marked}
use Rattle.reh_scan.proofs.ReadingLaws.{first_within, write_set_within}
use Rattle.reh_step.proofs.MarkLaws.{write_set_long, is_marked_there}
use Rattle.reh_step.proofs.recoveries.count_registered.Goals as goal

pub loop-index-init : goal.loop-index-init
loop-index-init c =
    let m : Metadata = c.args.metadata.now in
    let indexes : c.into_iter-index-iterator.result ≡ write_set c.args.entry m.size m.write_quorum = search rules in
    let rules_of : IsMetadata m = c.size.ensures.well_formed in
    let long : length c.into_iter-index-iterator.result ≡ m.write_quorum =
    ap (λ (is : List ℕ). length is) indexes ∙ write_set_long c.args.entry m.size m.write_quorum in
    let all : count_by (is_marked c.args.registered.now) c.into_iter-index-iterator.result ≡ count_by
    (is_marked c.args.registered.now) (write_set c.args.entry m.size m.write_quorum) =
    ap (λ (is : List ℕ). count_by (is_marked c.args.registered.now) is) indexes in
    record {
      counted = omega (arith, all);
      room = omega (arith, long, rules_of.writes_within, rules_of.small);
      within =
          subst (λ (is : List ℕ). All (λ i. i < m.size) is) (sym indexes) (write_set_within m c.args.entry rules_of);
    }

pub bounds-registered-index : goal.bounds-registered-index
bounds-registered-index c =
    let rules_of : IsMetadata c.args.metadata.now = c.size.ensures.well_formed in
    let below = first_within _ _ _ _ c.in-Some.ensures.steps c.loop-index.invariant.within in
    omega (arith, below, rules_of.small)

pub loop-index-preserved-then-registered-index : goal.loop-index-preserved-then-registered-index
loop-index-preserved-then-registered-index c =
    let m : Metadata = c.args.metadata.now in
    let marked : ℕ → Bool = is_marked c.args.registered.now in
    let rules_of : IsMetadata m = c.size.ensures.well_formed in
    let below = first_within _ _ _ _ c.in-Some.ensures.steps c.loop-index.invariant.within in
    let inside : c.in-Some.index < length c.args.registered.now =
    omega (arith, below, rules_of.small, c.told-registered) in
    let here : marked c.in-Some.index ≡ true =
    is_marked_there c.args.registered.now c.in-Some.index _ inside ∙ c.if-registered-index.true in
    let split : count_by marked c.loop-index.index-iterator ≡ 1 + count_by marked c.next.new.self =
    ap (λ (is : List ℕ). count_by marked is) c.in-Some.ensures.steps
    ∙ sum_by-cons (λ i. cond (marked i) 1 0) c.in-Some.index c.next.new.self
    ∙ ap (λ b. cond b 1 0 + count_by marked c.next.new.self) here in
    let shorter : length c.loop-index.index-iterator ≡ suc (length c.next.new.self) =
    ap (λ (is : List ℕ). length is) c.in-Some.ensures.steps in
    let was : c.loop-index.count + length c.loop-index.index-iterator ≤ 16 = c.loop-index.invariant.room in
    record {
      counted = omega (arith, split, c.loop-index.invariant.counted);
      room = omega (arith, shorter, was);
      within =
          All-tail (λ i. i < m.size) _ _
          (subst (λ (is : List ℕ). All (λ i. i < m.size) is) c.in-Some.ensures.steps c.loop-index.invariant.within);
    }

pub loop-index-preserved : goal.loop-index-preserved
loop-index-preserved c =
    let m : Metadata = c.args.metadata.now in
    let marked : ℕ → Bool = is_marked c.args.registered.now in
    let rules_of : IsMetadata m = c.size.ensures.well_formed in
    let below = first_within _ _ _ _ c.in-Some.ensures.steps c.loop-index.invariant.within in
    let inside : c.in-Some.index < length c.args.registered.now =
    omega (arith, below, rules_of.small, c.told-registered) in
    let here : marked c.in-Some.index ≡ false =
    is_marked_there c.args.registered.now c.in-Some.index _ inside ∙ c.if-registered-index.false in
    let split : count_by marked c.loop-index.index-iterator ≡ 0 + count_by marked c.next.new.self =
    ap (λ (is : List ℕ). count_by marked is) c.in-Some.ensures.steps
    ∙ sum_by-cons (λ i. cond (marked i) 1 0) c.in-Some.index c.next.new.self
    ∙ ap (λ b. cond b 1 0 + count_by marked c.next.new.self) here in
    let shorter : length c.loop-index.index-iterator ≡ suc (length c.next.new.self) =
    ap (λ (is : List ℕ). length is) c.in-Some.ensures.steps in
    let was : c.loop-index.count + length c.loop-index.index-iterator ≤ 16 = c.loop-index.invariant.room in
    record {
      counted = omega (arith, split, c.loop-index.invariant.counted);
      room = omega (arith, shorter, was);
      within =
          All-tail (λ i. i < m.size) _ _
          (subst (λ (is : List ℕ). All (λ i. i < m.size) is) c.in-Some.ensures.steps c.loop-index.invariant.within);
    }
