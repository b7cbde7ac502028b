use Rattle.std.proofs.Common.{◌∙◌}
use Rattle.reh_script.proofs.OpeningLaws.{opens_refused, opens_lacking, opens_state}
use Rattle.reh_script.proofs.openings.open_picture.Goals as goal

pub returns-in_err-state : goal.returns-in_err-state
returns-in_err-state c = opens_refused _ c.in_err-state.field-0.0 _ c.in_err-state.ensures c.from_residual.ensures.1

pub returns-in_err-names : goal.returns-in_err-names
returns-in_err-names c = opens_lacking _ _ c.from_residual-in_err-names.ensures.1

pub returns-in_err-book : goal.returns-in_err-book
returns-in_err-book c = opens_lacking _ _ c.from_residual-in_err-book.ensures.1

pub returns : goal.returns
returns c =
    opens_state _ c.in_ok-state.state _ c.in_ok-state.ensures (record {
      book = c.in_ok-book.ensures.0;
      seat = c.in_ok-book.ensures.1;
      names = c.in_ok-names.ensures ∙ c.names.ensures.names;
    })
