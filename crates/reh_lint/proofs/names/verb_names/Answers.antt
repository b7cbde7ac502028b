use Rattle.std.proofs.Common.{◌≡◌, ◌∙◌, ◌+◌, ◌<◌, ◌++◌, ◌∷◌, [], ℕ, List, map, take, length, get_or, ap, sym, arith, Bor}
use Rattle.std.proofs.lemmas.List.{map-append, take_more}
use Rattle.reh_commands.specs.declared.verbs.Verb.{Verb}
use Rattle.reh_commands.specs.Script.{form_of}
use Rattle.reh_lint.proofs.names.verb_names.Goals as goal

-- a verb's name is added
one_more : (verbs : List Verb) (i : ℕ) (d : Verb) (old new : List (Bor (List ℕ))) (name : Bor (List ℕ))
    → i < length verbs → new ≡ old ++ name ∷ [] → name.now ≡ (form_of (get_or verbs i d)).name
    → map (λ name. name.now) old ≡ map (λ verb. (form_of verb).name) (take i verbs)
    → map (λ name. name.now) new ≡ map (λ verb. (form_of verb).name) (take (i + 1) verbs)
one_more verbs i d old new name within is same before =
    ap (map (λ name. name.now)) is ∙ map-append (λ name. name.now) old (name ∷ [])
    ∙ (λ k. before k ++ same k ∷ [])
    ∙ sym (map-append (λ verb. (form_of verb).name) (take i verbs) (get_or verbs i d ∷ []))
    ∙ ap (map (λ verb. (form_of verb).name)) (sym (take_more verbs i d within))

pub loop-verb-preserved : goal.loop-verb-preserved
loop-verb-preserved c =
    one_more c.all-verbs.result c.loop-verb.verb-index _ c.loop-verb.list.items _ _ (omega arith) c.in_ok-push.ensures.items
    c.name.ensures c.loop-verb.invariant
