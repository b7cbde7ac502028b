-- Those that are passed are there.
use Rattle.std.proofs.Common.{◌≡◌, ◌++◌, map, take}
use Rattle.reh_inputs.specs.Renumbered.{counted_by}
use Rattle.reh_inputs.proofs.files.add_entries.Given as goal

abbrev pub invariant-loop-one : goal.invariant-loop-one
invariant-loop-one l = l.entries.items ≡ l.fn.entries.items ++ map (counted_by l.numbers) (take l.one-index l.counted)
