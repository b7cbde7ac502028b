use Rattle.reh_lines.proofs.Gathering.{grows_on}
use Rattle.reh_script.proofs.as_json.write_end.Goals as goal

pub returns-clause-grows : goal.returns-clause-grows
returns-clause-grows g c = grows_on _ _ _ c.in_ok-write_all.ensures.seen c.flush.ensures.grows
