-- The replies that the results of calls stand for.
use Rattle.std.specs.Prelude.{Result, Ok, Err}
use Rattle.reh_types.specs.declared.moves.Reply.{Reply}
use Rattle.reh_types.specs.declared.moves.Reply.TheVariants.{Issued, Discarded, Refused}
use Rattle.reh_types.specs.declared.refusals.Refusal.{Refusal}
use Rattle.reh_types.specs.declared.refusals.Refusal.TheVariants.{NotOut, NoMemory}
use Rattle.reh_desk.specs.declared.tickets.Ticket.{Ticket}
use Rattle.reh_desk.specs.declared.tickets.Stray.{Stray}
use Rattle.reh_desk.specs.declared.books.SpendCause.{SpendCause}
use Rattle.reh_desk.specs.declared.books.SpendCause.TheVariants as cause
use Rattle.reh_desk.specs.declared.books.SpendFault.{SpendFault}

abbrev pub checked_out : Result Ticket Refusal → Reply
checked_out (Ok ticket) = Issued ticket.number
checked_out (Err refusal) = Refused refusal

abbrev pub refused_by : SpendCause → Reply
refused_by cause.NotOut = Refused NotOut
refused_by cause.NoMemory = Refused NoMemory

abbrev pub spent : Result Reply SpendFault → Reply
spent (Ok reply) = reply
spent (Err fault) = refused_by fault.cause

abbrev pub discarded : Result (Unit {0}) Stray → Reply
discarded (Ok done) = Discarded
discarded (Err stray) = Refused NotOut
