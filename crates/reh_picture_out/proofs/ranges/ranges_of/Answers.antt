-- One entry more is passed.
use Rattle.std.proofs.Common.{◌≡◌, ◌∙◌, ◌||◌, ◌&&◌, nat_eq, nat_lt, ap, sym, refl, arith}
use Rattle.reh_held.specs.Rows.{is_set}
use Rattle.reh_picture_out.specs.Ranges.{is_in, is_passed}
use Rattle.reh_picture_out.proofs.RangeLaws.{below-more, clear-row}
use Rattle.reh_picture_out.proofs.ranges.ranges_of.Goals as goal

pub returns-then-is_clear : goal.returns-then-is_clear
returns-then-is_clear c = λ e.
    ap (λ ranges. is_in ranges e) c.new-ranges.ensures.items
    ∙ clear-row c.args.words.now c.args.end (c.if-is_clear.ensures refl) e

pub loop-entry-preserved : goal.loop-entry-preserved
loop-entry-preserved c = record {
  begun = c.in_ok-first.ensures.begun;
  passed = λ e.
      c.in_ok-first.ensures.passed e
      ∙ (λ i. c.loop-entry.invariant.passed e i || (c.is_set.ensures i && nat_eq e c.loop-entry.entry))
      ∙ below-more (is_set c.args.words.now) c.loop-entry.entry e;
}

pub returns : goal.returns
returns c =
    let at_end : c.loop-entry.entry ≡ c.args.end = omega arith in
    λ e.
    c.in_ok-pass.ensures.closed e refl
    ∙ ap (λ end. is_passed c.loop-entry.ranges.items c.loop-entry.first end e) (sym at_end)
    ∙ c.loop-entry.invariant.passed e
    ∙ ap (λ end. nat_lt e end && is_set c.args.words.now e) at_end
