-- No holding is there at first, and then each run after those of its ledger.
use Rattle.std.proofs.Common.{◌≡◌, ◌<◌, ◌≤◌, ◌∙◌, ◌++◌, ◌==◌, [], ap, cond, get_or, sym, ℕ, arith, zero-le}
use Rattle.std.proofs.lemmas.List.{take_all}
use Rattle.std.specs.BTreeMap.{is_at}
use Rattle.std.specs.List.{filter}
use Rattle.std.specs.Map.{lookup}
use Rattle.std.specs.Ordering.{nat_cmp}
use Rattle.reh_picture.specs.Contents.{Holding}
use Rattle.reh_inputs.specs.ByLedger.{held_in}
use Rattle.reh_inputs.proofs.ByLedgerLaws.{get_any, run-more}
use Rattle.reh_inputs.proofs.by_ledger.group_by_ledger.Goals as goal

pub loop-at-init : goal.loop-at-init
loop-at-init c = record {
  within = zero-le;
  passed = λ ledger. ap (λ es. held_in (lookup (is_at (nat_cmp ledger)) es)) c.new-by_ledger.ensures.empty;
}

pub loop-at-preserved : goal.loop-at-preserved
loop-at-preserved c =
    let all = c.args.holdings.now in
    let at = c.loop-at.at in
    let end = c.run_end-end.result in
    let ledger = c.ledger.result in
    let run = c.split_at-in-loop-at.result.1.now in
    let alike : (k : ℕ) (d : Holding) → at ≤ k → k < end → (get_or all k d).ledger ≡ ledger =
    λ k d above below.
    c.run_end-end.ensures.alike k d above below
    ∙ ap (λ (h : Holding). h.ledger)
    (get_any all at d c.index-holdings-at.result c.loop-at-test.true ∙ sym c.index-holdings-at.is)
    ∙ sym c.ledger.ensures in
    record {
      within = c.run_end-end.ensures.within;
      passed = λ own.
          c.in_ok-add_run.ensures own
          ∙ (λ i. c.loop-at.invariant.passed own i ++ cond (ledger == own) run [])
          ∙ run-more own ledger at end all c.split_at.result.0.now run (omega (arith, c.run_end-end.ensures.later))
          c.run_end-end.ensures.within c.split_at.ensures.front c.split_at-in-loop-at.ensures.back alike;
    }

pub returns : goal.returns
returns c = λ ledger.
    c.loop-at.invariant.passed ledger
    ∙ ap (filter (λ (h : Holding). h.ledger == ledger)) (take_all c.loop-at.at c.args.holdings.now (omega (arith, c.loop-at-test.false)))
