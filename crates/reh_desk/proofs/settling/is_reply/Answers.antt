use Rattle.std.proofs.Common.{◌≡◌, subst, sym}
use Rattle.std.specs.Prelude.{◌↔◌, IsTrue, Bool}
use Rattle.reh_desk.proofs.ReplyLaws.{replies_tell}
use Rattle.reh_desk.proofs.settling.is_reply.Goals as goal

pub returns : goal.returns
returns c = subst (λ (b : Bool). IsTrue b ↔ (c.args.reply ≡ c.args.other)) (sym c.eq.ensures) (replies_tell c.args.reply c.args.other)
