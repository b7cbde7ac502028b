use Rattle.std.proofs.Common.{◌≡◌, ◌++◌, map, drop, string_bytes}
use Rattle.reh_commands.specs.Texts.{behind_spaces, name_of}
use Rattle.reh_commands.proofs.reports.push_names.Given as goal

-- the text so far and the names that are left
abbrev pub invariant-loop-bookie : goal.invariant-loop-bookie
invariant-loop-bookie l = string_bytes l.text ++ behind_spaces (map (name_of l.names) (drop l.bookie-index l.bookies)) ≡ string_bytes l.fn.text ++ behind_spaces (map (name_of l.names) l.bookies)
