-- The rounds that are passed, and those from there on.
use Rattle.std.proofs.Common.{◌≡◌, ◌++◌, true, drop, string_bytes}
use Rattle.reh_waves.specs.Json.{elements, round_json}
use Rattle.reh_waves.proofs.objects.push_rounds.Given as goal

abbrev pub invariant-loop-round : goal.invariant-loop-round
invariant-loop-round l = string_bytes l.text ++ elements (round_json l.names) l.is_first (drop l.round-index l.rounds) ≡ string_bytes l.initial.text ++ elements (round_json l.names) true l.rounds
