-- Each line is answered `ok`, as its event is accepted.
use Rattle.std.proofs.Common.{◌≡◌, subst, arith}
use Rattle.reh_model.specs.Book.{new_book}
use Rattle.reh_model.specs.Session.{opened_session}
use Rattle.reh_lines.specs.Lines.{lines_of}
use Rattle.reh_transcript.specs.Transcript.{starting, transcript}
use Rattle.reh_plan.specs.Plans.{Draft}
use Rattle.reh_plan.specs.Replies.{ok_answers}
use Rattle.reh_plan.proofs.ReplyLaws.{plan_ok}
use Rattle.reh_plan.proofs.plans.Plan.text.Goals as goal

pub returns-clause-replies : goal.returns-clause-replies
returns-clause-replies c =
    subst (λ (d : Draft). transcript d.opening.names 0 (starting (new_book (opened_session d.opening))) 1 d.lines ≡ ok_answers d.opening.names 1 d.lines)
    c.self.view_is
    (plan_ok c.self.inside.session.opening c.state-replayed.result.now (lines_of c.self.inside.text.items) c.self.inside.session.done c.self.invariant.asks c.state-replayed.ensures.replays (omega (arith, c.undone-few.ensures.few)))
