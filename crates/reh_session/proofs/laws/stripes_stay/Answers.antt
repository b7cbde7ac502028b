-- Accepted events keep the stops that fragments have, and so the stripes up to them.
use Rattle.reh_model.proofs.SwapLaws.{stop_at-after, stripe_at-after}
use Rattle.reh_session.proofs.laws.stripes_stay.Goals as goal

pub returns-clause-stops : goal.returns-clause-stops
returns-clause-stops c = stop_at-after

pub returns-clause-stripes : goal.returns-clause-stripes
returns-clause-stripes c = stripe_at-after
