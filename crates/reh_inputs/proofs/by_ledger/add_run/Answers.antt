-- Where a ledger has no holdings, the look-up changed nothing.
use Rattle.reh_inputs.proofs.by_ledger.add_run.Goals as goal

pub returns-in-None : goal.returns-in-None
returns-in-None c = rw c.get_mut.follows.holds-at-none at c.add_first.ensures
