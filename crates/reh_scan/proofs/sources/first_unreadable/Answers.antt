-- An entry of the word that no row of its write set has can't be read, and the others can.
use Rattle.std.proofs.Common.{◌≡◌, ◌∙◌, ℕ, Bool, not, List, ◌+◌, ◌*◌, ap, sym, subst}
use Rattle.std.specs.Prelude.{bit_and}
use Rattle.std.specs.Int.{bit_not, w64}
use Rattle.std.specs.List.{find}
use Rattle.reh_model.specs.Cluster.{is_readable}
use Rattle.reh_stripe.specs.declared.words.Word.{Word}
use Rattle.reh_stripe.specs.Words.{AreRising, entries_of}
use Rattle.reh_scan.proofs.ReadingLaws.{is_readable-rows}
use Rattle.reh_scan.proofs.WordLaws.{left-bits, found-here, found-later}
use Rattle.reh_scan.proofs.sources.first_unreadable.Goals as goal

pub loop-word-init : goal.loop-word-init
loop-word-init c =
    let words : c.into_iter-word-iterator.result ≡ c.words-word-items.result =
    c.into_iter-word-iterator.ensures.into_iter_gives in
    record {
      first =
          ap (λ (es : List ℕ). find (λ e. not (is_readable c.args.state.now c.args.ledger.now c.args.fragment.now e)) es)
          (sym (ap (λ (ws : List Word). entries_of ws) words ∙ c.words-word-items.ensures.entries));
      rising = (0, subst (λ (ws : List Word). AreRising 0 ws) (sym words) c.words-word-items.ensures.rising);
    }

pub loop-word-preserved : goal.loop-word-preserved
loop-word-preserved c =
    let reads : ℕ → Bool = is_readable c.args.state.now c.args.ledger.now c.args.fragment.now in
    let w : Word = c.in-Some.word in
    let rising =
    subst (λ (ws : List Word). AreRising c.loop-word.invariant.rising.0 ws) c.in-Some.ensures.steps
    c.loop-word.invariant.rising.1 in
    let left =
    left-bits reads w.bits c.readable_word.result w.number c.readable_word.type_inv
    (λ i inside. c.readable_word.ensures i inside
    ∙ sym (is_readable-rows c.args.state.now c.args.ledger.now c.args.fragment.now c.source_rows-rows.result
    c.metadata-metadata.result.now c.metadata-metadata.ensures
    c.source_rows-rows.ensures.well_formed c.source_rows-rows.ensures.rows (64 * w.number + i))) in
    record {
      first =
          c.loop-word.invariant.first
          ∙ ap (λ (ws : List Word). find (λ e. not (reads e)) (entries_of ws)) c.in-Some.ensures.steps
          ∙ found-later (λ e. not (reads e)) w c.next.new.self (bit_and w.bits (bit_not w64 c.readable_word.result)) left
          (sym c.least_entry.ensures ∙ c.in_default.is);
      rising = (w.number + 1, rising.2);
    }

pub returns-in-Some-least_entry : goal.returns-in-Some-least_entry
returns-in-Some-least_entry c =
    let reads : ℕ → Bool = is_readable c.args.state.now c.args.ledger.now c.args.fragment.now in
    let w : Word = c.in-Some.word in
    let left =
    left-bits reads w.bits c.readable_word.result w.number c.readable_word.type_inv
    (λ i inside. c.readable_word.ensures i inside
    ∙ sym (is_readable-rows c.args.state.now c.args.ledger.now c.args.fragment.now c.source_rows-rows.result
    c.metadata-metadata.result.now c.metadata-metadata.ensures
    c.source_rows-rows.ensures.well_formed c.source_rows-rows.ensures.rows (64 * w.number + i))) in
    sym (c.loop-word.invariant.first
    ∙ ap (λ (ws : List Word). find (λ e. not (reads e)) (entries_of ws)) c.in-Some.ensures.steps
    ∙ found-here (λ e. not (reads e)) w c.next.new.self (bit_and w.bits (bit_not w64 c.readable_word.result))
    c.in-Some-least_entry.entry left
    (sym c.least_entry.ensures ∙ c.in-Some-least_entry.is))

pub returns : goal.returns
returns c =
    let reads : ℕ → Bool = is_readable c.args.state.now c.args.ledger.now c.args.fragment.now in
    sym (c.loop-word.invariant.first
    ∙ ap (λ (ws : List Word). find (λ e. not (reads e)) (entries_of ws)) c.in-None.ensures.steps.0)
