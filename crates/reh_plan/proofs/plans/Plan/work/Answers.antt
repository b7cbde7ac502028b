-- The line that is printed is read back as the event's command, and is kept with the event.
use Rattle.std.proofs.Common.{◌≡◌, ◌∙◌, ap, sym, refl, arith, List, ℕ, Some}
use Rattle.std.specs.Prelude.{Ok}
use Rattle.reh_commands.specs.declared.commands.Command.{Command}
use Rattle.reh_commands.specs.Answers.{asked}
use Rattle.reh_plan.specs.Plans.{has_lf}
use Rattle.reh_plan.proofs.DraftLaws.{IsDraft-event, made_by}
use Rattle.reh_plan.proofs.plans.Plan.work.Goals as goal

-- what is read back, with the names of the state and the bytes of the text
asks_for : (names others : List (List ℕ)) (line text : List ℕ) (command : Command) → others ≡ names → line ≡ text
    → asked others text ≡ Some (Ok command) → asked names line ≡ Some (Ok command)
asks_for names others line text command same is read =
    ap (asked names) is ∙ ap (λ (ns : List (List ℕ)). asked ns text) (sym same) ∙ read

pub invariant_of-self-in-Ok : goal.invariant_of-self-in-Ok
invariant_of-self-in-Ok c =
    let read = rw c.in-Some.is at c.in_ok-written.ensures.read in
    let one_line = rw c.in-Some.is at c.in_ok-written.ensures.one_line in
    IsDraft-event c.self.inside.session c.act.new.self c.state.result.now c.self.inside.text.items
    c.push_line.new.text.items c.as_bytes-line.result.now c.args.event.now c.self.invariant c.state.ensures.replays
    (omega (arith, c.if-not-has_room.ensures refl, c.len-length.ensures))
    (ap has_lf c.as_bytes-line.ensures.value ∙ one_line)
    (asks_for c.state.result.now.names c.names.result.now c.as_bytes-line.result.now _ _ c.names.ensures.names c.as_bytes-line.ensures.value read)
    c.in_ok-push_line.ensures.ok c.in-Ok.ensures.answers

pub returns-in-Ok-clause-ok : goal.returns-in-Ok-clause-ok
returns-in-Ok-clause-ok c =
    let read = rw c.in-Some.is at c.in_ok-written.ensures.read in
    let one_line = rw c.in-Some.is at c.in_ok-written.ensures.one_line in
    made_by c.self.inside.session c.act.new.self c.state.result.now c.args.self.now c.self.inside.text.items
    c.push_line.new.text.items c.as_bytes-line.result.now c.args.event.now c.self.invariant c.self.view_is
    c.state.ensures.replays
    (ap has_lf c.as_bytes-line.ensures.value ∙ one_line)
    (asks_for c.state.result.now.names c.names.result.now c.as_bytes-line.result.now _ _ c.names.ensures.names c.as_bytes-line.ensures.value read)
    c.in_ok-push_line.ensures.ok c.in-Ok.ensures.answers
