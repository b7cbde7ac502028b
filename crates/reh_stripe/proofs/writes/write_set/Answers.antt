-- Ranks that start at the entry's remainder give the indexes that start at the entry itself.
use Rattle.reh_model.specs.Striping.{range}
use Rattle.reh_model.proofs.StripingLaws.{map-index_at-rest}
use Rattle.reh_stripe.proofs.writes.write_set.Goals as goal

pub returns : goal.returns
returns c = map-index_at-rest c.args.entry c.args.size (range 0 c.args.quorum)
