-- One bit is set, that of the entry.
use Rattle.std.proofs.Common.{◌*◌, ◌<◌, ◌||◌, List, ℕ, length, nat_eq, ap, ◌∙◌}
use Rattle.reh_held.specs.Rows.{is_set}
use Rattle.reh_held.proofs.RowLaws.{is_set-insert}
use Rattle.reh_held.proofs.rows.Row.insert.Goals as goal

pub returns-clause-bits : goal.returns-clause-bits
returns-clause-bits c = λ e.
    let words : List ℕ = c.self.inside.words.items in
    let within : c.args.entry < 64 * length words = rw (← c.self.view_is) at c.requires in
    is_set-insert words c.args.entry c.index_mut.result.now within c.index_mut.ensures.value e
    ∙ ap (λ (ws : List ℕ). nat_eq e c.args.entry || is_set ws e) c.self.view_is
