-- The words of one more ledger are added to the sum.
use Rattle.std.proofs.Common.{◌≡◌, ◌+◌, ◌*◌, ◌≤◌, get_or, sym, ap, ◌∙◌, take, arith}
use Rattle.std.specs.Prelude.{sum_by}
use Rattle.std.proofs.lemmas.List.Sums.{sum_by_more}
use Rattle.reh_types.specs.declared.limits.TheConstants.{ENTRIES_IN_WORD, ENTRY_END}
use Rattle.reh_model.specs.Cluster.{Ledger}
use Rattle.reh_picture.proofs.pictures.words_in_all.Goals as goal

pub loop-ledger-preserved : goal.loop-ledger-preserved
loop-ledger-preserved c =
    let ledgers = c.args.ledgers.now in
    let place = c.loop-ledger.ledger-index in
    let words = λ (g : Ledger). g.words in
    let few : ENTRIES_IN_WORD * (get_or ledgers place c.ledger-item.result).words ≤ ENTRY_END =
    c.requires.words place c.ledger-item.result c.loop-ledger-test.true in
    let one : c.words.result ≡ (get_or ledgers place c.ledger-item.result).words =
    c.words.ensures ∙ ap words c.ledger-item.is in
    record {
      sum =
          (λ i. c.loop-ledger.invariant.sum i + c.words.ensures i)
          ∙ ap (λ g. sum_by words (take place ledgers) + words g) c.ledger-item.is
          ∙ sym (sum_by_more words ledgers place c.ledger-item.result c.loop-ledger-test.true);
      small = omega (arith, c.loop-ledger.invariant.small, few, one);
    }
