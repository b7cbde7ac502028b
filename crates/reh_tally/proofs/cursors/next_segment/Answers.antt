use Rattle.std.proofs.Common.{◌≡◌, ◌∙◌, ◌+◌, ◌-◌, ◌<◌, ◌≤◌, ◌⊎◌, ℕ, List, All, length, drop, ap, sym, subst, arith, length-drop}
use Rattle.std.specs.Prelude.{Any}
use Rattle.reh_tally.specs.declared.cursors.Cursor.{Cursor}
use Rattle.reh_tally.specs.Cursors.{EndsAt, IsFar}
use Rattle.reh_tally.specs.Masks.{mask_of}
use Rattle.reh_tally.proofs.CursorLaws.{before-more, end-more}
use Rattle.reh_tally.proofs.MaskLaws.{mask-more, mask-room}
use Rattle.reh_tally.proofs.cursors.next_segment.Goals as goal

pub with_bit-held-requires : goal.with_bit-held-requires
with_bit-held-requires c =
    let few : length (drop c.loop-index.index c.loop-index.cursors.items) ≤ 63 =
    omega (arith, length-drop c.loop-index.index c.loop-index.cursors.items, c.loop-index.invariant.long, c.requires.few, c.loop-index-test.true) in
    omega (arith, c.loop-index.invariant.bits, mask-room (λ (d : Cursor). d.stretch.is_held) (drop c.loop-index.index c.loop-index.cursors.items) few)

pub loop-index-preserved : goal.loop-index-preserved
loop-index-preserved c =
    let i : ℕ = c.loop-index.index - 1 in
    let old : List Cursor = c.loop-index.cursors.items in
    let new : List Cursor = c.move_one.new.cursors.items in
    let x : Cursor = c.index-in-loop-index.result.now in
    let next : c.loop-index.index ≡ (c.loop-index.index - 1) + 1 = omega (arith, c.loop-index-test.true) in
    let within : c.loop-index.index - 1 < length c.move_one.new.cursors.items =
    omega (arith, c.loop-index-test.true, c.loop-index.invariant.inside, c.move_one.ensures.long) in
    let later : c.args.at < c.index-in-loop-index.result.now.stretch.end =
    subst (λ (d : Cursor). c.args.at < d.stretch.end) (sym c.index-in-loop-index.ensures) (c.move_one.ensures.later x) in
    let far : IsFar c.args.ledger.now c.args.at c.args.stop x =
    subst (λ (d : Cursor). IsFar c.args.ledger.now c.args.at c.args.stop d) (sym c.index-in-loop-index.ensures) (c.move_one.ensures.far i x within) in
    record {
      inside = omega (arith, within);
      long = c.move_one.ensures.long ∙ c.loop-index.invariant.long;
      members = c.move_one.ensures.members ∙ c.loop-index.invariant.members;
      told = c.move_one.ensures.told;
      far = c.move_one.ensures.far;
      later = omega (arith, later, c.min-next.ensures, c.loop-index.invariant.later);
      within = omega (arith, c.min-next.ensures, c.loop-index.invariant.within);
      before =
          before-more old new i c.loop-index.next c.min-next.result x within c.move_one.ensures.rest c.index-in-loop-index.ensures c.min-next.ensures
          (subst (λ k. All (λ (d : Cursor). c.loop-index.next ≤ d.stretch.end) (drop k old)) next c.loop-index.invariant.before);
      end =
          end-more c.args.ledger.now old new i c.args.at c.args.stop c.loop-index.next c.min-next.result x within c.move_one.ensures.rest
          c.index-in-loop-index.ensures c.min-next.ensures later far
          (subst (λ k. (c.loop-index.next ≡ c.args.stop) ⊎ Any (EndsAt c.args.ledger.now c.args.stop c.loop-index.next) (drop k old)) next c.loop-index.invariant.end);
      bits =
          mask-more (λ (d : Cursor). d.stretch.is_held) new c.loop-index.index c.index.result.now c.loop-index.held c.with_bit-held.result
          c.index.result.now.stretch.is_held c.loop-index-test.true (omega (arith, within))
          (c.loop-index.invariant.bits
          ∙ ap (λ k. mask_of (λ (d : Cursor). d.stretch.is_held) (drop k old)) next
          ∙ ap (λ (items : List Cursor). mask_of (λ (d : Cursor). d.stretch.is_held) items) (sym c.move_one.ensures.rest)
          ∙ ap (λ k. mask_of (λ (d : Cursor). d.stretch.is_held) (drop k new)) (sym next))
          (ap (λ (d : Cursor). d.stretch.is_held) c.index.ensures) c.with_bit-held.ensures;
    }
