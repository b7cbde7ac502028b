use Rattle.std.proofs.Common.{◌∙◌, ◌++◌, ℕ, List, ap, string_bytes}
use Rattle.std.specs.Prelude.{codes}
use Rattle.std.specs.Fmt.{styled_decimal}
use Rattle.reh_answer.proofs.TextLaws.{cell-padded, instead}
use Rattle.reh_answer.proofs.rows.push_cell.Goals as goal

pub returns : goal.returns
returns c =
    instead c.write.result (string_bytes c.write.new.self) (string_bytes c.args.text.now) _ _
    ((λ i. codes " " ++ styled_decimal (c.laid_out.ensures i) c.args.number)
    ∙ ap (λ (t : List ℕ). codes " " ++ t) (cell-padded c.args.number))
    c.write.ensures.bytes
