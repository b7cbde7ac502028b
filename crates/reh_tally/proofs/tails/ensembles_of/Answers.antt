use Rattle.std.proofs.Common.{◌≡◌, ◌+◌, ℕ, List, ap, take, get_or, arith}
use Rattle.std.specs.Prelude.{sum_by, count_by}
use Rattle.std.proofs.lemmas.List.Sums.{sum_by_more}
use Rattle.reh_census.specs.declared.ledgers.Fragment.{Fragment}
use Rattle.reh_census.specs.Copies.{in_order}
use Rattle.reh_census.specs.Ledgers.{Ledger}
use Rattle.reh_tally.proofs.tails.ensembles_of.Goals as goal

pub loop-ledger-preserved : goal.loop-ledger-preserved
loop-ledger-preserved c test =
    let ledgers : List Ledger = c.args.ledgers.now in
    let n : ℕ = c.loop-ledger.ledger-index in
    let count : List Fragment → ℕ = count_by (λ fragment. test (in_order fragment.ensemble)) in
    let more : sum_by (λ g. count g.fragments) (take (n + 1) ledgers)
    ≡ sum_by (λ g. count g.fragments) (take n ledgers) + count (get_or ledgers n c.ledger-item.result).fragments =
    sum_by_more (λ g. count g.fragments) ledgers n c.ledger-item.result c.loop-ledger-test.true in
    omega (
      arith,
      more,
      c.loop-ledger.invariant test,
      c.in_ok-add_ensembles.ensures test,
      ap count c.fragments.ensures.fragments,
      ap (λ (g : Ledger). count g.fragments) c.ledger-item.is,
    )
