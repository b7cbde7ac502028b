use Rattle.std.proofs.Common.{◌≡◌, ◌∙◌, ◌<◌, ◌+◌, ◌++◌, ◌∷◌, [], ℕ, List, ap, get_or, length, map, sym, take, take_all}
use Rattle.std.proofs.lemmas.List.{map-append, take_more}
use Rattle.std.specs.Borrow.{Bor}
use Rattle.reh_words.specs.Asked.{id_of}
use Rattle.reh_words.proofs.questions.ids_of.Goals as goal

-- one id more
ids-more : (words : List (Bor (List ℕ))) (i id : ℕ) (ids : List ℕ) (d : Bor (List ℕ)) → i < length words
    → ids ≡ map id_of (map (λ word. word.now) (take i words)) → id ≡ id_of (get_or words i d).now
    → ids ++ id ∷ [] ≡ map id_of (map (λ word. word.now) (take (i + 1) words))
ids-more words i id ids d below were is =
    let text : Bor (List ℕ) → List ℕ = λ word. word.now in
    (λ k. were k ++ is k ∷ [])
    ∙ sym
    (ap (λ (ws : List (Bor (List ℕ))). map id_of (map text ws)) (take_more words i d below)
    ∙ ap (λ (texts : List (List ℕ)). map id_of texts) (map-append text (take i words) (get_or words i d ∷ []))
    ∙ map-append id_of (map text (take i words)) ((get_or words i d).now ∷ []))

pub loop-word-preserved : goal.loop-word-preserved
loop-word-preserved c =
    c.in_ok-push-in-Some.ensures.items
    ∙ ids-more c.args.words.now c.loop-word.word-index c.in-Some.id c.loop-word.ids.items (record { ref_ptr = (0, 0); now = [] })
    c.loop-word-test.true c.loop-word.invariant c.in-Some.ensures

pub returns : goal.returns
returns c =
    c.loop-word.invariant
    ∙ ap (λ (words : List (Bor (List ℕ))). map id_of (map (λ word. word.now) words))
    (take_all c.loop-word.word-index c.args.words.now c.loop-word-test.false)
