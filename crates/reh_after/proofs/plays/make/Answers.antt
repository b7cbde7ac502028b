-- The reply accepts the move, or it is told.
use Rattle.std.proofs.Common.{◌∙◌, sym}
use Rattle.reh_after.proofs.AfterLaws.{accepted, refused_move}
use Rattle.reh_after.proofs.plays.make.Goals as goal

pub returns-then-is_accepted-clause-played : goal.returns-then-is_accepted-clause-played
returns-then-is_accepted-clause-played c =
    accepted c.args.session.now c.args.step.now c.perform-reply.result c.perform-reply.new.self c.perform-reply.ensures.answers
    (sym c.is_accepted.ensures ∙ c.if-is_accepted.true)

pub returns-else-is_accepted-clause-fault : goal.returns-else-is_accepted-clause-fault
returns-else-is_accepted-clause-fault c =
    refused_move _ _ _ c.perform-reply.result c.perform-reply.new.self _ _ c.perform-reply.ensures.answers
    (sym c.is_accepted.ensures ∙ c.if-is_accepted.false) c.refused.ensures
