use Rattle.std.proofs.Common.{append_assoc, ◌∙◌, ◌++◌, ℕ, List, ap, string_bytes}
use Rattle.std.specs.Prelude.{flat_map}
use Rattle.reh_census.specs.Striping.{range}
use Rattle.reh_answer.specs.Texts as texts
use Rattle.reh_answer.proofs.TextLaws.{range-printed}
use Rattle.reh_answer.proofs.rows.push_numbers.Goals as goal

pub loop-number-preserved : goal.loop-number-preserved
loop-number-preserved c =
    let first : List ℕ = string_bytes c.args.text.now in
    let n : ℕ = c.loop-number.number in
    c.in_ok-push_cell.ensures
    ∙ ap (λ (t : List ℕ). t ++ texts.cell n) c.loop-number.invariant
    ∙ append_assoc first (flat_map texts.cell (range 0 n)) (texts.cell n)
    ∙ ap (λ (t : List ℕ). first ++ t) (range-printed texts.cell n)
