-- The ids that are passed are there.
use Rattle.std.proofs.Common.{◌≡◌, ◌++◌, take}
use Rattle.reh_inputs.proofs.apart.add_ids.Given as goal

abbrev pub invariant-loop-id : goal.invariant-loop-id
invariant-loop-id l = l.seen.keys ≡ l.fn.seen.keys ++ take l.id-index l.ids
