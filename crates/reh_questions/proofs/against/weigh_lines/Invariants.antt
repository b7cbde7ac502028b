-- Some lines were read once more.
use Rattle.std.proofs.Common.{ℕ, Bool, List}
use Rattle.reh_census.specs.Ledgers.{Ledger}
use Rattle.reh_questions.specs.Against.{IsUnderWay}
use Rattle.reh_questions.proofs.against.weigh_lines.Given as goal

abbrev pub invariant-loop-number : goal.invariant-loop-number
invariant-loop-number l =
    (names : List (List ℕ)) (strict : Bool) (ids : List ℕ) (ledgers : List (List Ledger))
    → IsUnderWay l.by.stop names strict ids ledgers l.fn.again l.fn.worst
    → IsUnderWay l.by.stop names strict ids ledgers l.again l.worst
