-- One ledger more has rows as long as it says, and the others keep theirs.
use Rattle.std.proofs.Common.{ℕ, List, ap, ◌∙◌, subst, arith}
use Rattle.std.specs.Option.{unwrap_or}
use Rattle.std.specs.Ordering.{nat_cmp}
use Rattle.std.specs.FinMap as finite
use Rattle.std.specs.FinMap.{FinMap, get-empty}
use Rattle.std.proofs.lemmas.List.{take_all}
use Rattle.reh_model.specs.Cluster.{Ledger}
use Rattle.reh_held.specs.Values.{HeldValue}
use Rattle.reh_cluster.specs.Parts.{HasRows}
use Rattle.reh_picture.proofs.Rows.{grown-last, grown-none, rows-next}
use Rattle.reh_picture.proofs.contents.empty_rows.Goals as goal
use Rattle.reh_picture.proofs.contents.empty_rows.Goals.{then-entries-gt0+in_ok-reserve, else-entries-gt0}

pub loop-ledger-init : goal.loop-ledger-init
loop-ledger-init c = record {
  contents = c.new-held.ensures.contents;
  few = omega (arith, c.new-held.ensures.few);
  rows = record {
    bookies = c.new-held.ensures.bookies;
    words =
        λ l. ap (λ (words : FinMap nat_cmp ℕ). unwrap_or (finite.get words l) 0) c.new-held.ensures.words
        ∙ ap (λ o. unwrap_or o 0) (get-empty nat_cmp l);
  };
}

pub loop-ledger-preserved : goal.loop-ledger-preserved
loop-ledger-preserved c =
    let so_far = c.loop-ledger.invariant in
    let ledgers = c.args.ledgers.now in
    let place = c.loop-ledger.ledger-index in
    let ledger = c.ledger-item.result in
    let before = c.loop-ledger.held in
    let after = c.if-entries-gt0.held in
    let next =
    rows-next c.args.bookies before after ledgers place ledger c.requires.different c.loop-ledger-test.true
    c.ledger-item.is so_far.rows in
    elim c.if-entries-gt0.branch [
      | then-entries-gt0+in_ok-reserve w ↦
          let is = w.held-is ∙ w.in_ok-reserve.ensures.ok in
          record {
            contents = ap (λ (v : HeldValue). v.contents) is ∙ so_far.contents;
            few =
                omega
                (arith, ap (λ (v : HeldValue). finite.len v.words) w.held-is, w.in_ok-reserve.ensures.few, so_far.few);
            rows =
                next (ap (λ (v : HeldValue). v.bookies) is)
                (grown-last before after ledger w.id.result c.words.result w.id.ensures c.words.ensures
                (omega (arith, w.if-entries-gt0.true)) is);
          }
      | else-entries-gt0 w ↦ record {
        contents = ap (λ (v : HeldValue). v.contents) w.held-is ∙ so_far.contents;
        few = omega (arith, ap (λ (v : HeldValue). finite.len v.words) w.held-is, so_far.few);
        rows =
            next (ap (λ (v : HeldValue). v.bookies) w.held-is)
            (grown-none before after ledger (omega (arith, c.words.ensures, w.if-entries-gt0.false)) w.held-is);
      }
    ]

pub returns-clause-rows : goal.returns-clause-rows
returns-clause-rows c =
    let ledgers = c.args.ledgers.now in
    subst (λ (gs : List Ledger). HasRows c.args.bookies gs c.loop-ledger.held)
    (take_all c.loop-ledger.ledger-index ledgers c.loop-ledger-test.false) c.loop-ledger.invariant.rows
