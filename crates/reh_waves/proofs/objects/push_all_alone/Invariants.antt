-- The bookies that are passed, and those from there on.
use Rattle.std.proofs.Common.{◌≡◌, ◌++◌, true, drop, string_bytes}
use Rattle.reh_waves.specs.Json.{alone_json, elements}
use Rattle.reh_waves.proofs.objects.push_all_alone.Given as goal

abbrev pub invariant-loop-one : goal.invariant-loop-one
invariant-loop-one l = string_bytes l.text ++ elements (alone_json l.names) l.is_first (drop l.one-index l.alone) ≡ string_bytes l.initial.text ++ elements (alone_json l.names) true l.alone
