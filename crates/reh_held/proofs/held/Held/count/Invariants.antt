use Rattle.reh_model.specs.Contents.{count_held}
use Rattle.reh_held.proofs.CountHeldLaws.{IsCounting}
use Rattle.reh_held.proofs.held.Held.count.Given as goal

abbrev pub invariant-loop-table : goal.invariant-loop-table
invariant-loop-table l =
    IsCounting l.self.bookies l.bookie (count_held l.self.contents l.bookie) l.table-iterator l.count
