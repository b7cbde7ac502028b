use Rattle.std.proofs.Common.{◌≡◌, ◌++◌, map, drop, string_bytes}
use Rattle.reh_census_file.specs.Lines.{lines_of}
use Rattle.reh_census_file.specs.Texts.{tail_words}
use Rattle.reh_census_file.proofs.texts.push_tails.Given as goal

-- the text so far and the lines that are left
abbrev pub invariant-loop-counted : goal.invariant-loop-counted
invariant-loop-counted l =
    string_bytes l.text ++ lines_of (map (tail_words l.names) (drop l.counted-index l.tails)) ≡ string_bytes l.fn.text ++ lines_of (map (tail_words l.names) l.tails)
