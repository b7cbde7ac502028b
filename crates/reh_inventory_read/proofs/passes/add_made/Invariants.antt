-- The lines that are passed were added, and what was made of the others can still be added.
use Rattle.reh_inventory_read.specs.Passes.{bytes_of}
use Rattle.reh_inventory_read.proofs.passes.add_made.Given as goal

abbrev pub invariant-loop-line : goal.invariant-loop-line
invariant-loop-line g l = g.P.Pass.adds (bytes_of l.yielded) l.fn.pass l.pass
