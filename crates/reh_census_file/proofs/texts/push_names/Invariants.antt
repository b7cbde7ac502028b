use Rattle.std.proofs.Common.{◌≡◌, ◌++◌, drop, string_bytes}
use Rattle.reh_census_file.specs.Lines.{behind_spaces}
use Rattle.reh_census_file.specs.Texts.{names_of}
use Rattle.reh_census_file.proofs.texts.push_names.Given as goal

-- the text so far and the names that are left
abbrev pub invariant-loop-number : goal.invariant-loop-number
invariant-loop-number l =
    string_bytes l.text ++ behind_spaces (names_of l.names (drop l.number-index l.numbers)) ≡ string_bytes l.fn.text ++ behind_spaces (names_of l.names l.numbers)
