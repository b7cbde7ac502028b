-- The bookies that are passed, and those from there on.
use Rattle.std.proofs.Common.{◌≡◌, ◌++◌, drop, string_bytes}
use Rattle.reh_waves.specs.Texts.{all_alone_text}
use Rattle.reh_waves.proofs.lines.push_all_alone.Given as goal

abbrev pub invariant-loop-one : goal.invariant-loop-one
invariant-loop-one l =
    string_bytes l.text ++ all_alone_text l.names (drop l.one-index l.alone) ≡ string_bytes l.initial.text ++ all_alone_text l.names l.alone
