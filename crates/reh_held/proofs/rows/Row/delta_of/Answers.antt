-- Of each word the entries turn that the row lacks.
use Rattle.std.proofs.Common.{◌≡◌, ◌∙◌, List, ℕ, slice_index, ap, subst, sym, arith}
use Rattle.reh_stripe.specs.declared.words.Word.{Word}
use Rattle.reh_stripe.specs.Words.{AreRising, entries_of}
use Rattle.reh_held.specs.declared.turns.Turn.{Turn}
use Rattle.reh_held.proofs.DeltaLaws.{IsTurningOn, turning-none, turning-same, turning-more, turning-all}
use Rattle.reh_held.proofs.rows.Row.delta_of.Goals as goal

pub loop-word-init : goal.loop-word-init
loop-word-init c =
    let row : List ℕ = c.args.self.now in
    let entries : List ℕ = c.args.entries.now in
    let words : c.into_iter-word-iterator.result ≡ c.words-word-items.result =
    c.into_iter-word-iterator.ensures.into_iter_gives in
    subst (λ (us : List Turn). IsTurningOn row entries us c.into_iter-word-iterator.result)
    (sym c.new-turns.ensures.items)
    (turning-none row entries c.into_iter-word-iterator.result
    (ap (λ (ws : List Word). entries_of ws) words ∙ c.words-word-items.ensures.entries)
    (subst (λ (ws : List Word). AreRising 0 ws) (sym words) c.words-word-items.ensures.rising) c.requires)

pub loop-word-preserved : goal.loop-word-preserved
loop-word-preserved c =
    let row : List ℕ = c.args.self.now in
    let entries : List ℕ = c.args.entries.now in
    let w : Word = c.in-Some.word in
    let read : c.word_at.result ≡ slice_index row w.number =
    c.word_at.ensures ∙ ap (λ (ws : List ℕ). slice_index ws w.number) (c.deref.ensures.value ∙ c.self.view_is) in
    turning-same row entries c.loop-word.turns.items w c.next.new.self c.word_at.result read c.word_at.type_inv
    c.if-bits-ne0.false
    (subst (λ (ws : List Word). IsTurningOn row entries c.loop-word.turns.items ws) c.in-Some.ensures.steps
    c.loop-word.invariant)

pub loop-word-preserved-in-Continue-1 : goal.loop-word-preserved-in-Continue-1
loop-word-preserved-in-Continue-1 c =
    let row : List ℕ = c.args.self.now in
    let entries : List ℕ = c.args.entries.now in
    let w : Word = c.in-Some.word in
    let read : c.word_at.result ≡ slice_index row w.number =
    c.word_at.ensures ∙ ap (λ (ws : List ℕ). slice_index ws w.number) (c.deref.ensures.value ∙ c.self.view_is) in
    subst (λ (us : List Turn). IsTurningOn row entries us c.next.new.self) (sym c.in_ok-push.ensures.items)
    (turning-more row entries c.loop-word.turns.items w c.next.new.self c.word_at.result (omega arith) read
    c.word_at.type_inv c.if-bits-ne0.true
    (subst (λ (ws : List Word). IsTurningOn row entries c.loop-word.turns.items ws) c.in-Some.ensures.steps
    c.loop-word.invariant))

pub returns : goal.returns
returns c =
    turning-all c.args.self.now c.args.entries.now c.loop-word.turns.items c.loop-word.word-iterator
    c.in-None.ensures.steps.0 c.loop-word.invariant
