use Rattle.reh_play.proofs.players.answer.Goals as goal

pub returns-in-Ok-Make-clause-ok : goal.returns-in-Ok-Make-clause-ok
returns-in-Ok-Make-clause-ok g c = rw (c.in-Ok-Make.is, c.in-Ok-Make.field-0-is) c.make.ensures.ok

pub returns-in-Ok-Make-clause-err : goal.returns-in-Ok-Make-clause-err
returns-in-Ok-Make-clause-err g c = rw (c.in-Ok-Make.is, c.in-Ok-Make.field-0-is) c.make.ensures.err

pub returns-in-Ok-Checkout-clause-err : goal.returns-in-Ok-Checkout-clause-err
returns-in-Ok-Checkout-clause-err g c = rw (c.in-Ok-Checkout.is, c.in-Ok-Checkout.field-0-is) c.check_out.ensures.err

pub returns-in-Ok-Spend-clause-err : goal.returns-in-Ok-Spend-clause-err
returns-in-Ok-Spend-clause-err g c = rw (c.in-Ok-Spend.is, c.in-Ok-Spend.field-0-is) c.spend.ensures.err

pub returns-in-Ok-Survey-clause-err : goal.returns-in-Ok-Survey-clause-err
returns-in-Ok-Survey-clause-err g c = rw (c.in-Ok-Survey.is, c.in-Ok-Survey.field-0-is) c.survey.ensures.err
