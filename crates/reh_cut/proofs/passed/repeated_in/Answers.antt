-- The first of those that are left, if it stands twice.
use Rattle.std.proofs.Common.{◌∙◌, ap, sym, Some}
use Rattle.reh_cut.specs.Passed.{stands_twice}
use Rattle.reh_cut.proofs.RangeLaws.{found_at, passed_over}
use Rattle.reh_cut.proofs.passed.repeated_in.Goals as goal

pub loop-member-preserved : goal.loop-member-preserved
loop-member-preserved c =
    passed_over (stands_twice c.args.ensemble.now) c.args.ensemble.now c.loop-member.member-index c.member-item.result
    c.loop-member-test.true
    (ap (stands_twice c.args.ensemble.now) (sym c.member-item.is) ∙ sym c.stands_twice.ensures ∙ c.if-stands_twice.false)
    ∙ c.loop-member.invariant

pub returns-then-stands_twice : goal.returns-then-stands_twice
returns-then-stands_twice c =
    ap Some c.member-item.is
    ∙ sym (found_at (stands_twice c.args.ensemble.now) c.args.ensemble.now c.loop-member.member-index c.member-item.result
    c.loop-member-test.true
    (ap (stands_twice c.args.ensemble.now) (sym c.member-item.is) ∙ sym c.stands_twice.ensures ∙ c.if-stands_twice.true))
    ∙ c.loop-member.invariant
