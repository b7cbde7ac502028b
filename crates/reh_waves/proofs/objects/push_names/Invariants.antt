-- The names that are passed, and those from there on.
use Rattle.std.proofs.Common.{◌≡◌, ◌++◌, true, drop, string_bytes}
use Rattle.reh_waves.specs.Json.{elements, name_json}
use Rattle.reh_waves.proofs.objects.push_names.Given as goal

abbrev pub invariant-loop-bookie : goal.invariant-loop-bookie
invariant-loop-bookie l = string_bytes l.text ++ elements (name_json l.names) l.is_first (drop l.bookie-index l.bookies) ≡ string_bytes l.initial.text ++ elements (name_json l.names) true l.bookies
