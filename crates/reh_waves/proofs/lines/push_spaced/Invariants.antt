-- The names that are passed, and those from there on.
use Rattle.std.proofs.Common.{◌≡◌, ◌++◌, drop, string_bytes}
use Rattle.reh_waves.specs.Texts.{spaced}
use Rattle.reh_waves.proofs.lines.push_spaced.Given as goal

abbrev pub invariant-loop-bookie : goal.invariant-loop-bookie
invariant-loop-bookie l =
    string_bytes l.text ++ spaced l.names (drop l.bookie-index l.bookies) ≡ string_bytes l.initial.text ++ spaced l.names l.bookies
