use Rattle.std.proofs.Common.{◌≡◌, ◌+◌, ℕ, List, ap, take, get_or, arith}
use Rattle.std.specs.Prelude.{sum_by}
use Rattle.std.proofs.lemmas.List.Sums.{sum_by_more}
use Rattle.reh_census.specs.Counting.{count_ledger}
use Rattle.reh_census.specs.Ledgers.{Ledger}
use Rattle.reh_tally.specs.Members.{names_of}
use Rattle.reh_tally.proofs.segments.entries_of.Goals as goal

pub loop-ledger-preserved : goal.loop-ledger-preserved
loop-ledger-preserved c test =
    let ledgers : List Ledger = c.args.ledgers.now in
    let n : ℕ = c.loop-ledger.ledger-index in
    let f : Ledger → ℕ = count_ledger (names_of c.args.bookies.now) test in
    let more : sum_by f (take (n + 1) ledgers) ≡ sum_by f (take n ledgers) + f (get_or ledgers n c.ledger-item.result) =
    sum_by_more f ledgers n c.ledger-item.result c.loop-ledger-test.true in
    omega (arith, more, c.loop-ledger.invariant test, c.in_ok-count_ledger.ensures test, ap f c.ledger-item.is)
