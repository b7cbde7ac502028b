-- The names so far.
use Rattle.std.proofs.Common.{◌≡◌, map, take, string_bytes}
use Rattle.reh_near.proofs.ids.names_of.Given as goal

abbrev pub invariant-loop-text : goal.invariant-loop-text
invariant-loop-text l = map (λ name. name.now) l.names.items ≡ map string_bytes (take l.text-index l.texts)
