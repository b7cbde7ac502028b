-- A word more has as many entries as ones.
use Rattle.std.proofs.Common.{◌≡◌, ◌∙◌, ◌+◌, ℕ, List, length, ap, sym, subst, arith}
use Rattle.std.proofs.lemmas.List.{length-append}
use Rattle.std.proofs.lemmas.Nat.{ones-le}
use Rattle.reh_stripe.specs.declared.words.Word.{Word}
use Rattle.reh_stripe.specs.Words.{AreRising, entries_in, entries_of}
use Rattle.reh_stripe.proofs.CountLaws.{ones-entries}
use Rattle.reh_stripe.proofs.striped.Striped.len.Goals as goal

pub loop-word-init : goal.loop-word-init
loop-word-init c =
    let words : c.into_iter-word-iterator.result ≡ c.words-word-items.result =
    c.into_iter-word-iterator.ensures.into_iter_gives in
    let long : length (entries_of c.into_iter-word-iterator.result) ≡ length c.args.self.now =
    ap (λ (es : List ℕ). length es)
    (ap (λ (ws : List Word). entries_of ws) words ∙ c.words-word-items.ensures.entries) in
    record {
      all = omega (arith, long);
      few = (0, subst (λ (ws : List Word). AreRising 0 ws) (sym words) c.words-word-items.ensures.rising, omega arith);
    }

pub overflow_add-count : goal.overflow_add-count
overflow_add-count c =
    let w : Word = c.in-Some.word in
    let was = c.loop-word.invariant.few in
    let rising = subst (λ (ws : List Word). AreRising was.0 ws) c.in-Some.ensures.steps was.1 in
    omega (arith, was.2, rising.0, rising.1, ones-le 64 w.bits (omega arith))

pub loop-word-preserved : goal.loop-word-preserved
loop-word-preserved c =
    let w : Word = c.in-Some.word in
    let rest : List Word = c.next.new.self in
    let was = c.loop-word.invariant.few in
    let rising = subst (λ (ws : List Word). AreRising was.0 ws) c.in-Some.ensures.steps was.1 in
    let more : length (entries_of c.loop-word.word-iterator) ≡ length (entries_in w) + length (entries_of rest) =
    ap (λ (ws : List Word). length (entries_of ws)) c.in-Some.ensures.steps
    ∙ length-append (entries_in w) (entries_of rest) in
    record {
      all = omega (arith, more, ones-entries w (omega arith), c.loop-word.invariant.all);
      few = (w.number + 1, rising.2, omega (arith, was.2, rising.0, ones-le 64 w.bits (omega arith)));
    }
