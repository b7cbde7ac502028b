-- Lists of fragments, and ensembles, compared place by place.
use Rattle.std.proofs.Common.{◌≡◌, ℕ, zero, suc, ◌+◌, ◌≤◌, min, inl, inr, List, [], ◌∷◌, ◌++◌, length, drop, refl, sym, ap, ◌∙◌, append_assoc, arith}
use Rattle.std.specs.Prelude.{slice_get}
use Rattle.std.proofs.lemmas.List.{append-nil, drop-drop, drop_all}
use Rattle.std.proofs.lemmas.Bool.{cases_lt}
use Rattle.reh_model.specs.Metadata.{Fragment}
use Rattle.reh_changes.specs.Changes.{fragment_lines, member_lines}
use Rattle.reh_changes.specs.Fragments.{lines_at}

-- the first of what is left from a place on
slice_get-drop : {X : Type 0} (xs : List X) (i : ℕ) → slice_get (drop i xs) 0 ≡ slice_get xs i
slice_get-drop [] zero = refl
slice_get-drop [] (suc i) = refl
slice_get-drop (x ∷ xs) zero = refl
slice_get-drop (x ∷ xs) (suc i) = slice_get-drop xs i

first_fragment : (names : List (List ℕ)) (id f : ℕ) (was now : List Fragment)
    → fragment_lines names id f was now ≡ lines_at names id f (slice_get was 0) (slice_get now 0) ++ fragment_lines names id (f + 1) (drop 1 was) (drop 1 now)
first_fragment names id f [] [] = refl
first_fragment names id f (was ∷ before) [] = refl
first_fragment names id f [] (now ∷ after) = refl
first_fragment names id f (was ∷ before) (now ∷ after) = refl

-- the f-th fragments are printed
pub fragment_more : (text : List ℕ) (names : List (List ℕ)) (id f : ℕ) (was now : List Fragment)
    → (text ++ lines_at names id f (slice_get was f) (slice_get now f)) ++ fragment_lines names id (f + 1) (drop (f + 1) was) (drop (f + 1) now)
    ≡ text ++ fragment_lines names id f (drop f was) (drop f now)
fragment_more text names id f was now =
    append_assoc text (lines_at names id f (slice_get was f) (slice_get now f)) (fragment_lines names id (f + 1) (drop (f + 1) was) (drop (f + 1) now))
    ∙ ap (λ t. text ++ t)
    (sym (first_fragment names id f (drop f was) (drop f now)
    ∙ (λ k. lines_at names id f (slice_get-drop was f k) (slice_get-drop now f k) ++ fragment_lines names id (f + 1) (drop-drop 1 f was k) (drop-drop 1 f now k))))

-- no member is left where one of the ensembles ends
pub members_end : (text all : List ℕ) (names : List (List ℕ)) (id f i : ℕ) (was now : List ℕ) → min (length was) (length now) ≤ i
    → text ++ member_lines names id f i (drop i was) (drop i now) ≡ all → text ≡ all
members_end text all names id f i was now past whole =
    let none : member_lines names id f i (drop i was) (drop i now) ≡ [] = elim (cases_lt i (length was)) [
      | inl within ↦ ap (λ (left : List ℕ). member_lines names id f i (drop i was) left) (drop_all i now (omega arith)) ∙ no_members (drop i was)
      | inr gone ↦ ap (λ (left : List ℕ). member_lines names id f i left (drop i now)) (drop_all i was gone)
    ] in
    sym (ap (λ t. text ++ t) none ∙ append-nil text) ∙ whole where
      no_members : (left : List ℕ) → member_lines names id f i left [] ≡ []
      no_members [] = refl
      no_members (b ∷ left) = refl
