use Rattle.reh_window.proofs.StripingLaws.{same-carriers, same-rest}
use Rattle.reh_window.proofs.laws.a_window_stripes_entries_as_the_ledger.Goals as goal

pub returns-clause-rest : goal.returns-clause-rest
returns-clause-rest c = same-rest

pub returns-clause-carried : goal.returns-clause-carried
returns-clause-carried c = same-carriers
