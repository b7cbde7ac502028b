-- What a worker does at a desk is known of its seat alone.
use Rattle.reh_crew.proofs.GainLaws.{gained_of}
use Rattle.reh_crew.proofs.drives.work_at.Goals as goal

pub returns : goal.returns
returns g c = gained_of _ _ _ _ _ c.work.ensures
