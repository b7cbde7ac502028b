use Rattle.std.proofs.Common.{◌∙◌, ◌%◌, get_or}
use Rattle.reh_tally.proofs.MaskLaws.{chosen-more, with_none, with_one}
use Rattle.reh_tally.proofs.masks.chosen.Goals as goal
use Rattle.reh_tally.proofs.masks.chosen.Goals.{then-rest-eq1+in_ok-push, else-rest-eq1}

pub loop-member-preserved : goal.loop-member-preserved
loop-member-preserved c =
    elim c.if-rest-eq1.branch [
      | then-rest-eq1+in_ok-push w ↦
          chosen-more c.loop-member.names.items _ c.args.members.now _ c.loop-member.member-index c.loop-member.rest c.loop-member-test.true
          ((λ i. (w.names-is i).items) ∙ w.in_ok-push.ensures.items
          ∙ with_one c.loop-member.names.items (get_or c.args.members.now c.loop-member.member-index 0) (c.loop-member.rest % 2) w.if-rest-eq1.true)
          c.loop-member.invariant
      | else-rest-eq1 w ↦
          chosen-more c.loop-member.names.items _ c.args.members.now _ c.loop-member.member-index c.loop-member.rest c.loop-member-test.true
          ((λ i. (w.names-is i).items)
          ∙ with_none c.loop-member.names.items (get_or c.args.members.now c.loop-member.member-index 0) (c.loop-member.rest % 2) w.if-rest-eq1.false)
          c.loop-member.invariant
    ]
