-- A session opens on what the picture shows.
use Rattle.std.proofs.Common.{◌∙◌, ap}
use Rattle.std.specs.Result.{result_map_both}
use Rattle.reh_after.proofs.pictures.opened.Goals as goal

pub returns-clause-opened : goal.returns-clause-opened
returns-clause-opened c = record {
  opening = c.in_ok-state.state;
  is_picture = ap (result_map_both (λ s. s) (λ found. found.0)) c.in_ok-state.ensures;
  names_are = c.in_ok-names.ensures ∙ c.names.ensures.names;
  session_is = c.in_ok-session.ensures;
}
