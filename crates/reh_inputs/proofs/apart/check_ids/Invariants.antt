-- The ids of the lists that are passed.
use Rattle.std.proofs.Common.{◌≡◌, take}
use Rattle.std.specs.List.{flat_map}
use Rattle.reh_inputs.proofs.apart.check_ids.Given as goal

abbrev pub invariant-loop-input : goal.invariant-loop-input
invariant-loop-input l = l.seen.keys ≡ flat_map (λ list. list.items) (take l.input l.lists)
