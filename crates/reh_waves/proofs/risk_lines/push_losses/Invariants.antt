-- The losses that are passed, and those from there on.
use Rattle.std.proofs.Common.{◌≡◌, ◌++◌, drop, string_bytes}
use Rattle.reh_waves.specs.Texts.{losses_text}
use Rattle.reh_waves.proofs.risk_lines.push_losses.Given as goal

abbrev pub invariant-loop-loss : goal.invariant-loop-loss
invariant-loop-loss l =
    string_bytes l.text ++ losses_text l.names l.racks (drop l.loss-index l.losses)
    ≡ string_bytes l.initial.text ++ losses_text l.names l.racks l.losses
