use Rattle.std.proofs.Common.{◌≡◌, ◌++◌, drop, string_bytes}
use Rattle.reh_commands.proofs.ReportLaws.{fragments_from}
use Rattle.reh_commands.proofs.reports.push_fragments.Given as goal

-- the text so far and the lines of the fragments that are left
abbrev pub invariant-loop-f : goal.invariant-loop-f
invariant-loop-f l =
    string_bytes l.text ++ fragments_from l.names l.metadata l.f (drop l.f l.metadata.fragments) ≡ string_bytes l.fn.text ++ fragments_from l.names l.metadata 0 l.metadata.fragments
