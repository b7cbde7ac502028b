-- Those that are passed are there.
use Rattle.std.proofs.Common.{◌≡◌, ◌++◌, map, take}
use Rattle.reh_inputs.specs.Renumbered.{counted_tail_by}
use Rattle.reh_inputs.proofs.files.add_tails.Given as goal

abbrev pub invariant-loop-one : goal.invariant-loop-one
invariant-loop-one l = l.tails.items ≡ l.fn.tails.items ++ map (counted_tail_by l.numbers) (take l.one-index l.counted)
