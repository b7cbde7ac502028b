-- Each line of a tape issues the next ticket, or none, and takes one at most from those that are out.
use Rattle.reh_desk.proofs.Issues.{numbered, issued_out, rising_out}
use Rattle.reh_desk.proofs.laws.tickets_differ.Goals as goal

pub returns-clause-numbers : goal.returns-clause-numbers
returns-clause-numbers c = numbered

pub returns-clause-out : goal.returns-clause-out
returns-clause-out c = issued_out

pub returns-clause-rising : goal.returns-clause-rising
returns-clause-rising c = rising_out
