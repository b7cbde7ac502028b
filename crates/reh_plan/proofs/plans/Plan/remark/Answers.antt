-- A comment asks for nothing.
use Rattle.std.proofs.Common.{◌∙◌, ap, sym, refl, arith, List, ℕ}
use Rattle.reh_commands.specs.Answers.{asked}
use Rattle.reh_plan.proofs.DraftLaws.{IsDraft-none, remarked_by}
use Rattle.reh_plan.proofs.plans.Plan.remark.Goals as goal

pub invariant_of-self-2 : goal.invariant_of-self-2
invariant_of-self-2 c =
    IsDraft-none c.self.inside.session c.state.result.now c.self.inside.text.items c.push_line.new.text.items
    c.args.line.now c.self.invariant c.state.ensures.replays
    (omega (arith, c.if-not-has_room.ensures refl, c.len.ensures))
    (c.if-not-is_comment.ensures.line refl)
    (ap (λ (ns : List (List ℕ)). asked ns c.args.line.now) (sym c.names.ensures.names) ∙ c.if-not-is_comment.ensures.asked refl)
    c.in_ok-push_line.ensures.ok

pub returns : goal.returns
returns c =
    remarked_by c.self.inside.session c.args.self.now c.self.inside.text.items c.push_line.new.text.items c.args.line.now
    c.self.invariant c.self.view_is (c.if-not-is_comment.ensures.line refl) c.in_ok-push_line.ensures.ok
