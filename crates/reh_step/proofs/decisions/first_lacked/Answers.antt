-- An entry of the word whose bit the bookie's row lacks is lacked, and the others are not.
use Rattle.std.proofs.Common.{◌≡◌, ◌∙◌, ℕ, Bool, not, List, ◌+◌, ◌*◌, ap, sym, subst}
use Rattle.std.specs.Prelude.{bit_and}
use Rattle.std.specs.Int.{bit_not, w64}
use Rattle.std.specs.List.{find}
use Rattle.reh_model.specs.Cluster.{holds}
use Rattle.reh_stripe.specs.declared.words.Word.{Word}
use Rattle.reh_stripe.specs.Words.{AreRising, entries_of, has_bit}
use Rattle.reh_scan.proofs.WordLaws.{has_bit-word, left-bits, found-here, found-later}
use Rattle.reh_step.proofs.decisions.first_lacked.Goals as goal

pub loop-word-init : goal.loop-word-init
loop-word-init c =
    let words : c.into_iter-word-iterator.result ≡ c.words-word-items.result =
    c.into_iter-word-iterator.ensures.into_iter_gives in
    record {
      first =
          ap (λ (es : List ℕ). find (λ e. not (holds c.args.state.now c.args.bookie c.args.ledger.now.id e)) es)
          (sym (ap (λ (ws : List Word). entries_of ws) words ∙ c.words-word-items.ensures.entries));
      rising = (0, subst (λ (ws : List Word). AreRising 0 ws) (sym words) c.words-word-items.ensures.rising);
    }

pub loop-word-preserved : goal.loop-word-preserved
loop-word-preserved c =
    let has : ℕ → Bool = holds c.args.state.now c.args.bookie c.args.ledger.now.id in
    let w : Word = c.in-Some.word in
    let rising =
    subst (λ (ws : List Word). AreRising c.loop-word.invariant.rising.0 ws) c.in-Some.ensures.steps
    c.loop-word.invariant.rising.1 in
    let left =
    left-bits has w.bits c.word_at.result w.number c.word_at.type_inv
    (λ i inside. ap (λ n. has_bit n i) c.word_at.ensures ∙ has_bit-word c.row-row.result.now w.number i inside
    ∙ c.row-row.ensures (64 * w.number + i)
    ∙ ap (λ l. holds c.args.state.now c.args.bookie l (64 * w.number + i)) c.id.ensures) in
    record {
      first =
          c.loop-word.invariant.first
          ∙ ap (λ (ws : List Word). find (λ e. not (has e)) (entries_of ws)) c.in-Some.ensures.steps
          ∙ found-later (λ e. not (has e)) w c.next.new.self (bit_and w.bits (bit_not w64 c.word_at.result)) left
          (sym c.least_entry.ensures ∙ c.in_default.is);
      rising = (w.number + 1, rising.2);
    }

pub returns-in-Some-least_entry : goal.returns-in-Some-least_entry
returns-in-Some-least_entry c =
    let has : ℕ → Bool = holds c.args.state.now c.args.bookie c.args.ledger.now.id in
    let w : Word = c.in-Some.word in
    let left =
    left-bits has w.bits c.word_at.result w.number c.word_at.type_inv
    (λ i inside. ap (λ n. has_bit n i) c.word_at.ensures ∙ has_bit-word c.row-row.result.now w.number i inside
    ∙ c.row-row.ensures (64 * w.number + i)
    ∙ ap (λ l. holds c.args.state.now c.args.bookie l (64 * w.number + i)) c.id.ensures) in
    sym (c.loop-word.invariant.first
    ∙ ap (λ (ws : List Word). find (λ e. not (has e)) (entries_of ws)) c.in-Some.ensures.steps
    ∙ found-here (λ e. not (has e)) w c.next.new.self (bit_and w.bits (bit_not w64 c.word_at.result))
    c.in-Some-least_entry.entry left
    (sym c.least_entry.ensures ∙ c.in-Some-least_entry.is))

pub returns : goal.returns
returns c =
    let has : ℕ → Bool = holds c.args.state.now c.args.bookie c.args.ledger.now.id in
    sym (c.loop-word.invariant.first
    ∙ ap (λ (ws : List Word). find (λ e. not (has e)) (entries_of ws)) c.in-None.ensures.steps.0)
