-- Two records of one difference have the same places, and the same change at each.
use Rattle.reh_model.proofs.UniqueLaws.{IsDelta-unique}
use Rattle.reh_session.proofs.laws.records_are_unique.Goals as goal

pub returns : goal.returns
returns c = IsDelta-unique
