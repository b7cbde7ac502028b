use Rattle.std.proofs.Common.{◌≡◌, ◌++◌, map, drop, string_bytes}
use Rattle.std.specs.List.{enumerate_from}
use Rattle.reh_commands.specs.Texts.{text_of, bookie_line}
use Rattle.reh_commands.proofs.reports.push_bookies.Given as goal

-- the text so far and the lines of the bookies that are left
abbrev pub invariant-loop-i : goal.invariant-loop-i
invariant-loop-i l =
    string_bytes l.text ++ text_of (map (λ place. bookie_line l.state place.0 place.1) (enumerate_from l.i (drop l.i l.state.names)))
    ≡ string_bytes l.fn.text ++ text_of (map (λ place. bookie_line l.state place.0 place.1) (enumerate_from 0 l.state.names))
