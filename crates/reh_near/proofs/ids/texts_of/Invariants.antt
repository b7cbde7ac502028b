-- The digits so far.
use Rattle.std.proofs.Common.{◌≡◌, map, take, string_bytes}
use Rattle.std.specs.Fmt.{decimal}
use Rattle.reh_near.proofs.ids.texts_of.Given as goal

abbrev pub invariant-loop-id : goal.invariant-loop-id
invariant-loop-id l = map string_bytes l.texts.items ≡ map decimal (take l.id-index l.ids)
