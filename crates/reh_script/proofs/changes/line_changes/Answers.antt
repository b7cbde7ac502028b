use Rattle.std.proofs.Common.{sym, ◌∙◌}
use Rattle.reh_script.proofs.ChangeLaws.{made_done, made_undone, made_nothing}
use Rattle.reh_script.proofs.changes.line_changes.Goals as goal

pub returns-then-not-is_done-clause-made : goal.returns-then-not-is_done-clause-made
returns-then-not-is_done-clause-made c =
    made_nothing c.args.book.now c.args.names.now c.args.line.now c.args.answer.now c.state.result.now
    (rw c.session-session.ensures at c.state.ensures.replays) c.assert_well_formed.ensures
    (sym c.is_done.ensures ∙ c.if-not-is_done.true)

pub returns-then-is_undo-clause-made : goal.returns-then-is_undo-clause-made
returns-then-is_undo-clause-made c =
    made_undone c.args.book.now c.args.names.now c.args.line.now c.args.answer.now c.state.result.now
    c.undone_changes.result.now (rw c.session-session.ensures at c.state.ensures.replays)
    (sym c.is_done.ensures ∙ c.if-not-is_done.false) (sym c.is_undo.ensures ∙ c.if-is_undo.true)
    (rw c.session-session.ensures at c.undone_changes.ensures.made)

pub returns-clause-made : goal.returns-clause-made
returns-clause-made c =
    made_done c.args.book.now c.args.names.now c.args.line.now c.args.answer.now c.state.result.now
    c.done_changes.result.now (rw c.session-session.ensures at c.state.ensures.replays)
    (sym c.is_done.ensures ∙ c.if-not-is_done.false) (sym c.is_undo.ensures ∙ c.if-is_undo.false)
    (rw c.session-session.ensures at c.done_changes.ensures.made)
