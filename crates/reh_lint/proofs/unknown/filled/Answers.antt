use Rattle.std.proofs.Common.{◌≡◌, ◌∙◌, ◌+◌, ◌<◌, ◌==◌, ◌++◌, ◌∷◌, [], ℕ, Bool, true, false, cond, not, List, map, drop, length, get_or, ap, sym, append_assoc, Bor, Vec, Global}
use Rattle.std.specs.List.{filter}
use Rattle.std.proofs.lemmas.List.{at_drop_more, map-append}
use Rattle.reh_lint.proofs.unknown.filled.Goals.{then-not-is_empty+in_ok-push, else-not-is_empty}
use Rattle.reh_lint.proofs.unknown.filled.Goals as goal

-- those of some parts that aren't empty
abbrev words : List (Bor (List ℕ)) → List (List ℕ)
words parts = filter (λ part. not (length part == 0)) (map (λ part. part.now) parts)

first_word : (parts : List (Bor (List ℕ))) (i : ℕ) (d : Bor (List ℕ)) (empty : Bool) → i < length parts
    → empty ≡ (length (get_or parts i d).now == 0)
    → words (drop i parts) ≡ cond (not empty) ((get_or parts i d).now ∷ words (drop (i + 1) parts)) (words (drop (i + 1) parts))
first_word parts i d empty within is =
    at_drop_more words parts i d within
    ∙ ap (λ t. cond (not t) ((get_or parts i d).now ∷ words (drop (i + 1) parts)) (words (drop (i + 1) parts))) (sym is)

pushed : (old new : List (Bor (List ℕ))) (x : Bor (List ℕ)) (rest : List (List ℕ)) → new ≡ old ++ x ∷ []
    → map (λ part. part.now) new ++ rest ≡ map (λ part. part.now) old ++ x.now ∷ rest
pushed old new x rest is =
    ap (λ parts. map (λ part. part.now) parts ++ rest) is
    ∙ ap (λ names. names ++ rest) (map-append (λ part. part.now) old (x ∷ []))
    ∙ append_assoc (map (λ part. part.now) old) (x.now ∷ []) rest

pub loop-part-preserved : goal.loop-part-preserved
loop-part-preserved c =
    elim c.if-not-is_empty.branch [
      | then-not-is_empty+in_ok-push w ↦
          pushed c.loop-part.words.items c.if-not-is_empty.words.items _ _
          (ap (λ (v : Vec (Bor (List ℕ)) Global). v.items) w.words-is ∙ w.in_ok-push.ensures.items)
          ∙ ap (λ rest. map (λ part. part.now) c.loop-part.words.items ++ rest)
          (sym (first_word c.args.parts.now c.loop-part.part-index _ false c.loop-part-test.true w.if-not-is_empty.ensures))
          ∙ c.loop-part.invariant
      | else-not-is_empty w ↦
          ap (λ (v : Vec (Bor (List ℕ)) Global). map (λ part. part.now) v.items
          ++ words (drop (c.loop-part.part-index + 1) c.args.parts.now)) w.words-is
          ∙ ap (λ rest. map (λ part. part.now) c.loop-part.words.items ++ rest)
          (sym (first_word c.args.parts.now c.loop-part.part-index _ true c.loop-part-test.true w.if-not-is_empty.ensures))
          ∙ c.loop-part.invariant
    ]
