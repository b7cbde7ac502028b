-- The lines that were read were added.
use Rattle.std.proofs.Common.{false}
use Rattle.reh_inventory_read.specs.Passes.{AddsRead}
use Rattle.reh_inventory_read.proofs.passes.add_all.Given as goal

abbrev pub invariant-loop-batch : goal.invariant-loop-batch
invariant-loop-batch g l =
    AddsRead g.P.Pass.adds false (g.B.Read.remaining l.fn.reader) (g.B.Read.remaining l.reader) l.fn.pass l.pass
