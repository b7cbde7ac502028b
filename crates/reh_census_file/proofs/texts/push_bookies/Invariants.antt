use Rattle.std.proofs.Common.{◌≡◌, ◌++◌, string_bytes}
use Rattle.reh_census_file.specs.Lines.{lines_of}
use Rattle.reh_census_file.specs.Texts.{bookie_lines}
use Rattle.reh_census_file.proofs.TextLaws.{bookies_from}
use Rattle.reh_census_file.proofs.texts.push_bookies.Given as goal

-- the text so far and the lines of the bookies that are left
abbrev pub invariant-loop-number : goal.invariant-loop-number
invariant-loop-number l =
    string_bytes l.text ++ bookies_from l.racks l.names l.bookies l.number ≡ string_bytes l.fn.text ++ lines_of (bookie_lines l.census)
