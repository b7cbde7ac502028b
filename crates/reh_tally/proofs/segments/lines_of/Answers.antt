use Rattle.std.proofs.Common.{◌≡◌, ◌∙◌, ◌+◌, ◌≤◌, ℕ, List, ap, arith}
use Rattle.reh_census.specs.Counting.{count_between}
use Rattle.reh_census.specs.Ledgers.{is_untold, told_of}
use Rattle.reh_tally.specs.declared.cursors.Cursor.{Cursor}
use Rattle.reh_tally.specs.Cursors.{told_at}
use Rattle.reh_tally.specs.Masks.{mask_of, masks_of}
use Rattle.reh_tally.specs.Segments.{class_by, count_classes}
use Rattle.reh_tally.proofs.SegmentLaws.{between-more, count-segment, cursors-later, far-later, masks-length, untold-mask}
use Rattle.reh_tally.proofs.segments.lines_of.Goals as goal

pub count_segment-requires-clause-some : goal.count_segment-requires-clause-some
count_segment-requires-clause-some c =
    omega (
      arith,
      c.requires.fragment.some,
      masks-length c.args.members.now c.args.ledger.now c.args.fragment.now c.deref-in-loop-at.result.now
          (c.deref-in-loop-at.ensures.value ∙ c.in_ok-masks.ensures),
    )

pub count_segment-requires-clause-small : goal.count_segment-requires-clause-small
count_segment-requires-clause-small c =
    omega (
      arith,
      c.requires.small,
      masks-length c.args.members.now c.args.ledger.now c.args.fragment.now c.deref-in-loop-at.result.now
          (c.deref-in-loop-at.ensures.value ∙ c.in_ok-masks.ensures),
    )

pub loop-at-preserved : goal.loop-at-preserved
loop-at-preserved c =
    let at : ℕ = c.loop-at.at in
    let next : ℕ = c.next_segment-next.result.stop in
    let cursors : List Cursor = c.next_segment-next.new.cursors.items in
    let members : List ℕ = c.args.members.now in
    let order : c.loop-at.at ≤ c.next_segment-next.result.stop = omega (arith, c.next_segment-next.ensures.later) in
    let carried : c.deref-in-loop-at.result.now ≡ masks_of members c.args.ledger.now c.args.fragment.now =
    c.deref-in-loop-at.ensures.value ∙ c.in_ok-masks.ensures in
    let untold : c.untold_of-untold.result ≡ mask_of (λ b. is_untold (told_of c.args.ledger.now b)) members =
    untold-mask c.args.ledger.now c.in_ok-cursors.cursors.items c.args.fragment.now.first c.untold_of-untold.result c.in_ok-cursors.ensures.told
    (c.untold_of-untold.ensures
    ∙ ap (λ (items : List Cursor). mask_of (λ (d : Cursor). is_untold (told_at c.args.ledger.now d.content)) items) c.deref.ensures.value)
    ∙ ap (λ (bs : List ℕ). mask_of (λ b. is_untold (told_of c.args.ledger.now b)) bs) c.in_ok-cursors.ensures.members in
    record {
      low = omega (arith, c.loop-at.invariant.low, order);
      high = c.next_segment-next.ensures.within;
      members = c.next_segment-next.ensures.members ∙ c.loop-at.invariant.members;
      told = cursors-later c.args.ledger.now at next cursors order c.next_segment-next.ensures.told;
      far = far-later c.args.ledger.now at next c.args.fragment.now.stop cursors order c.next_segment-next.ensures.far;
      counts = λ test.
          between-more members c.args.ledger.now c.args.fragment.now c.args.fragment.now.first at next test
          (count_classes members c.args.ledger.now c.loop-at.lines test) (count_classes members c.args.ledger.now c.count_segment.new.lines test)
          c.loop-at.invariant.low order (c.loop-at.invariant.counts test)
          (c.in_ok-count_segment.ensures (λ known lacking. test (class_by members c.args.ledger.now known lacking))
          ∙ ap (λ n. count_classes members c.args.ledger.now c.loop-at.lines test + n)
          (count-segment members c.args.ledger.now c.args.fragment.now c.deref-in-loop-at.result.now cursors at next c.next_segment-next.result.held
          c.untold_of-untold.result (omega (arith, c.requires.fragment.some)) order carried
          (c.next_segment-next.ensures.members ∙ c.loop-at.invariant.members) c.next_segment-next.ensures.told c.next_segment-next.ensures.before
          c.next_segment-next.ensures.held untold test));
    }

pub returns : goal.returns
returns c test =
    let all : c.loop-at.at ≡ c.args.fragment.now.stop = omega (arith, c.loop-at-test.false, c.loop-at.invariant.high) in
    c.loop-at.invariant.counts test
    ∙ ap (λ stop. count_between c.args.members.now c.args.ledger.now c.args.fragment.now c.args.fragment.now.first stop test) all
