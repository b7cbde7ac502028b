-- The bytes that are passed, and those from there on.
use Rattle.std.proofs.Common.{◌≡◌, ◌++◌, drop, string_bytes}
use Rattle.std.specs.Prelude.{flat_map}
use Rattle.reh_waves.specs.Json.{escaped}
use Rattle.reh_waves.proofs.objects.push_quoted.Given as goal

abbrev pub invariant-loop-byte : goal.invariant-loop-byte
invariant-loop-byte l = string_bytes l.text ++ flat_map escaped (drop l.byte-index l.bytes) ≡ string_bytes l.initial.text ++ flat_map escaped l.bytes
