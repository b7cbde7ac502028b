-- The waves that are passed, and those from there on.
use Rattle.std.proofs.Common.{◌≡◌, ◌+◌, ◌++◌, drop, string_bytes}
use Rattle.reh_waves.specs.Texts.{rounds_text}
use Rattle.reh_waves.proofs.lines.push_rounds.Given as goal

abbrev pub invariant-loop-number : goal.invariant-loop-number
invariant-loop-number l =
    string_bytes l.text ++ rounds_text l.names (l.number + 1) (drop l.number l.rounds)
    ≡ string_bytes l.initial.text ++ rounds_text l.names 1 l.rounds
