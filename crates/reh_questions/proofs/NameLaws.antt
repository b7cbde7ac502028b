-- What is told of the names that there are.
use Rattle.std.proofs.Common.{◌≡◌, ℕ, suc, List, [], ◌∷◌, ◌++◌, length, map, refl, ap, sym, ◌∙◌, None, Some}
use Rattle.std.specs.Prelude.{slice_get, codes}
use Rattle.std.specs.Borrow.{Bor}
use Rattle.std.specs.Fmt.{decimal}
use Rattle.std.proofs.lemmas.List.{length-map}
use Rattle.reh_questions.specs.Names.{count_text}

-- how many there are
text_of_count : ℕ → List ℕ → List ℕ
text_of_count count first = codes ": there are " ++ (decimal count ++ (codes ", such as '" ++ (first ++ codes "'")))

pub count_of_some : (known : List (Bor (List ℕ))) (first : Bor (List ℕ)) → slice_get known 0 ≡ Some first
    → codes ": there are " ++ (decimal (length known) ++ (codes ", such as '" ++ (first.now ++ codes "'")))
    ≡ count_text (map (λ name. name.now) known)
unfolding text_of_count
count_of_some [] first is = cc
count_of_some (x ∷ xs) first is =
    let same : Some x ≡ Some first = is in
    let own : x ≡ first = cc in
    ap (λ (f : Bor (List ℕ)). text_of_count (length (x ∷ xs)) f.now) (sym own)
    ∙ ap (λ (n : ℕ). text_of_count (suc n) x.now) (sym (length-map xs (λ (name : Bor (List ℕ)). name.now)))

pub count_of_none : (known : List (Bor (List ℕ))) → slice_get known 0 ≡ None
    → count_text (map (λ name. name.now) known) ≡ []
count_of_none [] is = refl
count_of_none (x ∷ xs) is = cc
