-- The losses that are passed, and those from there on.
use Rattle.std.proofs.Common.{◌≡◌, ◌++◌, true, drop, string_bytes}
use Rattle.reh_waves.specs.Json.{elements, loss_json}
use Rattle.reh_waves.proofs.risk_objects.push_each.Given as goal

abbrev pub invariant-loop-loss : goal.invariant-loop-loss
invariant-loop-loss l = string_bytes l.text ++ elements (loss_json l.names l.racks) l.is_first (drop l.loss-index l.losses) ≡ string_bytes l.initial.text ++ elements (loss_json l.names l.racks) true l.losses
