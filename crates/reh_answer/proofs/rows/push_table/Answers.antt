use Rattle.std.proofs.Common.{◌++◌, length, string_bytes}
use Rattle.std.specs.Prelude.{codes}
use Rattle.reh_census.specs.Striping.{range}
use Rattle.reh_answer.specs.Texts as texts
use Rattle.reh_answer.proofs.TextLaws.{before, instead}
use Rattle.reh_answer.proofs.rows.push_table.Goals as goal

pub returns : goal.returns
returns c =
    instead c.push_cells-2.result (string_bytes c.push_cells-2.new.text) (string_bytes c.args.text.now) _ (texts.table_text c.args.facts.now)
    (λ i. texts.row (codes "copies     ") (range 0 (length (c.as_slice.ensures i)))
    ++ (texts.row (codes "now        ") (c.as_slice-2.ensures i) ++ texts.row (codes "without    ") (c.as_slice-3.ensures i)))
    (before c.push_cells-2.result (string_bytes c.push_cells-2.new.text) (string_bytes c.args.text.now) (string_bytes c.push_str.new.self) _ _ c.in_ok-push_str.ensures.bytes
    (before c.push_cells-2.result (string_bytes c.push_cells-2.new.text) (string_bytes c.push_str.new.self) (string_bytes c.push_numbers.new.text) _ _ c.in_ok-push_numbers.ensures
    (before c.push_cells-2.result (string_bytes c.push_cells-2.new.text) (string_bytes c.push_numbers.new.text) (string_bytes c.push_str-2.new.self) _ _ c.in_ok-push_str-2.ensures.bytes
    (before c.push_cells-2.result (string_bytes c.push_cells-2.new.text) (string_bytes c.push_str-2.new.self) (string_bytes c.push_cells.new.text) _ _ c.in_ok-push_cells.ensures
    (before c.push_cells-2.result (string_bytes c.push_cells-2.new.text) (string_bytes c.push_cells.new.text) (string_bytes c.push_str-3.new.self) _ _ c.in_ok-push_str-3.ensures.bytes
    c.push_cells-2.ensures)))))
