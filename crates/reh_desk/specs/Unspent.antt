-- The number and the aim of a ticket, scanned or not.
use Rattle.std.specs.Prelude.{ℕ}
use Rattle.reh_types.specs.declared.names.Aim.{Aim}
use Rattle.reh_desk.specs.declared.tickets.Unspent.{Unspent}
use Rattle.reh_desk.specs.declared.tickets.Unspent.TheVariants.{Unscanned, Scanned}

abbrev pub number_of : Unspent → ℕ
number_of (Unscanned ticket) = ticket.number
number_of (Scanned finding) = finding.number

abbrev pub aim_of : Unspent → Aim
aim_of (Unscanned ticket) = ticket.content.aim
aim_of (Scanned finding) = finding.content.aim
