use Rattle.std.proofs.Common.{◌≡◌, ◌++◌, drop, string_bytes}
use Rattle.reh_commands.proofs.ReportLaws.{members_from}
use Rattle.reh_commands.proofs.reports.push_members.Given as goal

-- the text so far and the names that are left
abbrev pub invariant-loop-i : goal.invariant-loop-i
invariant-loop-i l = string_bytes l.text ++ members_from l.bookies l.i (drop l.i l.names) ≡ string_bytes l.fn.text ++ members_from l.bookies 0 l.names
