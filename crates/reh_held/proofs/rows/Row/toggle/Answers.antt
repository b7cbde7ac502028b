-- The bits of one word turn.
use Rattle.std.proofs.Common.{◌<◌, List, ℕ, length, ap, ◌∙◌}
use Rattle.reh_model.specs.Contents.{is_in_word, one_of}
use Rattle.reh_held.specs.Rows.{is_set}
use Rattle.reh_held.proofs.RowLaws.{is_set-toggle}
use Rattle.reh_held.proofs.rows.Row.toggle.Goals as goal

pub returns-clause-bits : goal.returns-clause-bits
returns-clause-bits c = λ e.
    let words : List ℕ = c.self.inside.words.items in
    let within : c.args.number < length words = rw (← c.self.view_is) at c.requires in
    is_set-toggle words c.args.number c.args.bits c.index_mut.result.now within c.index_mut.ensures.value e
    ∙ ap (λ (ws : List ℕ). one_of (is_set ws e) (is_in_word c.args.number c.args.bits e)) c.self.view_is
