-- One member more is written.
use Rattle.std.proofs.Common.{◌∙◌, ap}
use Rattle.serde_json.specs.Data.{string}
use Rattle.reh_picture_out.specs.Written.{member_data}
use Rattle.reh_picture_out.proofs.Lists.{made_more}
use Rattle.reh_picture_out.proofs.ledgers.member_values.Goals as goal

pub loop-member-preserved : goal.loop-member-preserved
loop-member-preserved c =
    rw c.in_ok-push.ensures.items
    (made_more (member_data c.args.names.now) c.args.members.now c.loop-member.member-index c.member-item.result
    c.loop-member-test.true c.member-item.is c.loop-member.values.items _ c.loop-member.invariant
    (c.in_ok-try_from_str.ensures ∙ ap string c.name_of.ensures))
