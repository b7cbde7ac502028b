-- The answer is the reply's text, or there is no memory.
use Rattle.std.proofs.Common.{◌≡◌, ◌∙◌, None, sym}
use Rattle.reh_commands.specs.Texts.{reply_text}
use Rattle.reh_after.specs.Faults.{want_of}
use Rattle.reh_after.proofs.AfterLaws.{told, wanting, with_fact}
use Rattle.reh_after.proofs.plays.refused.Goals as goal

pub returns-in-Some : goal.returns-in-Some
returns-in-Some c =
    wanting _ (λ a. (want_of c.args.reply.now ≡ None) × (a ≡ reply_text c.args.names.now c.args.reply.now)) c.args.reply.now _
    (sym c.want_of.ensures ∙ c.in-Some.is)

pub returns-in-None : goal.returns-in-None
returns-in-None c =
    with_fact _ _ (λ a. a ≡ reply_text c.args.names.now c.args.reply.now) _ (sym c.want_of.ensures ∙ c.in-None.is)
    (told _ _ c.reply_text.result _ c.unaccepted.ensures c.reply_text.ensures)
