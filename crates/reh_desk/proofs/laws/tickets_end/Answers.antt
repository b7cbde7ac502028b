-- Each line of a tape issues a ticket, ends one that is out, or leaves them as they are.
use Rattle.reh_desk.proofs.Endings.{each_ends, all_end, same_numbers}
use Rattle.reh_desk.proofs.laws.tickets_end.Goals as goal

pub returns-clause-each : goal.returns-clause-each
returns-clause-each c = each_ends

pub returns-clause-none_out : goal.returns-clause-none_out
returns-clause-none_out c = all_end

pub returns-clause-numbers : goal.returns-clause-numbers
returns-clause-numbers c = same_numbers
