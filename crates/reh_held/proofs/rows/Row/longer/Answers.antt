-- The words that are added have no bit set.
use Rattle.std.proofs.Common.{◌≡◌, ◌++◌, ◌-◌, List, ℕ, take, replicate, ap, ◌∙◌, vec_len}
use Rattle.reh_held.specs.Rows.{is_set}
use Rattle.reh_held.proofs.RowLaws.{is_set-longer}
use Rattle.reh_held.proofs.rows.Row.longer.Goals as goal

pub returns-clause-same : goal.returns-clause-same
returns-clause-same c = λ e.
    let added : ℕ = c.args.width - vec_len c.extend_from_slice.new.self in
    let copied : c.extend_from_slice.new.self.items ≡ c.args.self.now =
    c.in_ok-extend_from_slice.ensures.items ∙ ap (λ (ws : List ℕ). ws ++ c.deref.result.now) c.in_ok-words.ensures.items
    ∙ c.deref.ensures.value ∙ c.self.view_is in
    ap (λ (ws : List ℕ). is_set ws e) c.in_ok-resize.ensures.items
    ∙ ap (λ (ws : List ℕ). is_set (take c.args.width ws ++ replicate added 0) e) copied
    ∙ is_set-longer c.args.self.now c.args.width added c.requires e
