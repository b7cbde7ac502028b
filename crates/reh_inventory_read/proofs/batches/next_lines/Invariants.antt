-- The lines so far were read.
use Rattle.std.proofs.Common.{map}
use Rattle.reh_inventory_read.specs.Lines.{ReadsLines}
use Rattle.reh_inventory_read.proofs.batches.next_lines.Given as goal

abbrev pub invariant-loop-number : goal.invariant-loop-number
invariant-loop-number g l =
    ReadsLines (g.B.Read.remaining l.fn.reader) (g.B.Read.remaining l.reader) (map (λ line. line.items) l.lines.items)
