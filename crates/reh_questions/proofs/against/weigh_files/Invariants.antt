-- The files that are passed were weighed.
use Rattle.std.proofs.Common.{ℕ, List, map, take}
use Rattle.reh_against.specs.Weighed.{WeighsBy}
use Rattle.reh_census.specs.Ledgers.{Ledger}
use Rattle.reh_inventory_against.specs.Files.{HaveWeighed}
use Rattle.reh_questions.specs.Against.{is_read_again}
use Rattle.reh_questions.proofs.against.weigh_files.Given as goal

abbrev pub invariant-loop-number : goal.invariant-loop-number
invariant-loop-number l =
    (before : List ℕ) (ledgers : List (List Ledger)) → WeighsBy l.by.stop before ledgers l.fn.worst
    → HaveWeighed l.by.stop l.by.names.now l.by.is_strict (map (is_read_again l.is_any) (take l.number l.kinds))
    (take l.number l.ids) before ledgers l.worst
