-- The index of a text among the names is the number of these bytes; bytes that are no text are no name.
use Rattle.std.proofs.Common.{◌∙◌, sym, ap, position}
use Rattle.std.specs.Str.{bytes_eq}
use Rattle.reh_census_file.proofs.NameLemmas.{position_no_text, found_text}
use Rattle.reh_census_file.proofs.lists.NameList.find.Goals as goal

pub returns-in_err-index-in-Ok : goal.returns-in_err-index-in-Ok
returns-in_err-index-in-Ok c = rw c.from_residual.ensures (c.in_err-index-in-Ok.ensures.index ∙ found_text c.args.name.now _ _ _ c.in-Ok.ensures.cases.0 c.self.view_is)

pub returns-in_ok-index-in-Ok : goal.returns-in_ok-index-in-Ok
returns-in_ok-index-in-Ok c = c.in_ok-index-in-Ok.ensures.index ∙ found_text c.args.name.now _ _ _ c.in-Ok.ensures.cases.0 c.self.view_is

-- what is no text is no name
pub returns-in-Err : goal.returns-in-Err
returns-in-Err c = sym (position_no_text c.args.name.now c.self.inside.names.keys c.in-Err.ensures.cases.0) ∙ ap (position (bytes_eq c.args.name.now)) c.self.view_is
