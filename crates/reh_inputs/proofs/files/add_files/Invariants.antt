-- What the inputs that are passed count is there.
use Rattle.std.proofs.Common.{◌≡◌, ◌++◌, All, take}
use Rattle.std.specs.List.{flat_map}
use Rattle.reh_census.specs.Tails.{IsTail}
use Rattle.reh_inputs.specs.Inputs.{of_census}
use Rattle.reh_inputs.specs.Renumbered.{entries_in, tails_in, ensembles_in}
use Rattle.reh_inputs.proofs.files.add_files.Given as goal

abbrev pub invariant-loop-input : goal.invariant-loop-input
invariant-loop-input l =
    (l.counts.entries.items ≡ l.fn.counts.entries.items ++ flat_map (of_census (entries_in l.names)) (take l.input-index l.inputs))
    × (l.counts.tails.items ≡ l.fn.counts.tails.items ++ flat_map (of_census (tails_in l.names)) (take l.input-index l.inputs))
    × (l.counts.ensembles.items ≡ l.fn.counts.ensembles.items ++ flat_map (of_census (ensembles_in l.names)) (take l.input-index l.inputs))
    × All (λ t. IsTail t.tail) l.counts.tails.items
