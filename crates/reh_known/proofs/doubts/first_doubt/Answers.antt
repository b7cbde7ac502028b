-- A content of an empty bookie is named.
use Rattle.reh_known.proofs.doubts.first_doubt.Goals as goal

pub returns-in-Err-clause-some : goal.returns-in-Err-clause-some
returns-in-Err-clause-some c = (c.in-Err.held.bookie, c.in-Err.ensures.held)
