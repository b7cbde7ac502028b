use Rattle.std.proofs.Common.{take}
use Rattle.std.specs.List.{list_any}
use Rattle.reh_held.specs.Rows.{is_set, IsGreatest}
use Rattle.reh_held.proofs.tables.Table.greatest.Given as goal

abbrev pub invariant-loop-row : goal.invariant-loop-row
invariant-loop-row l = IsGreatest (λ e. list_any (λ row. is_set row e) (take l.row-index l.row-items)) l.greatest
