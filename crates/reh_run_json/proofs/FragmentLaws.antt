-- Lists of fragments, and ensembles, compared place by place.
use Rattle.std.proofs.Common.{◌≡◌, ℕ, zero, suc, ◌+◌, ◌≤◌, min, max, inl, inr, List, [], ◌∷◌, ◌++◌, length, drop, refl, ap, ◌∙◌, arith}
use Rattle.std.specs.Prelude.{slice_get}
use Rattle.std.proofs.lemmas.Grind.{flat_map-append}
use Rattle.std.proofs.lemmas.List.{drop-drop, drop_all}
use Rattle.std.proofs.lemmas.Bool.{cases_lt}
use Rattle.json.specs.Tree.{json_tokens}
use Rattle.reh_model.specs.Metadata.{Fragment}
use Rattle.reh_run_json.specs.Changes.{fragment_changes, member_changes}
use Rattle.reh_run_json.specs.Fragments.{changes_at}
use Rattle.reh_run_json.specs.Values.{tokens_of}

-- the first of what is left from a place on
slice_get-drop : {X : Type 0} (xs : List X) (i : ℕ) → slice_get (drop i xs) 0 ≡ slice_get xs i
slice_get-drop [] zero = refl
slice_get-drop [] (suc i) = refl
slice_get-drop (x ∷ xs) zero = refl
slice_get-drop (x ∷ xs) (suc i) = slice_get-drop xs i

first_fragment : (names : List (List ℕ)) (id f : ℕ) (was now : List Fragment)
    → fragment_changes names id f was now ≡ changes_at names id f (slice_get was 0) (slice_get now 0) ++ fragment_changes names id (f + 1) (drop 1 was) (drop 1 now)
first_fragment names id f [] [] = refl
first_fragment names id f (was ∷ before) [] = refl
first_fragment names id f [] (now ∷ after) = refl
first_fragment names id f (was ∷ before) (now ∷ after) = refl

-- the f-th fragments are passed
pub fragment-more : (names : List (List ℕ)) (id f : ℕ) (was now : List Fragment)
    → tokens_of (fragment_changes names id f (drop f was) (drop f now))
    ≡ tokens_of (changes_at names id f (slice_get was f) (slice_get now f)) ++ tokens_of (fragment_changes names id (f + 1) (drop (f + 1) was) (drop (f + 1) now))
fragment-more names id f was now =
    ap tokens_of (first_fragment names id f (drop f was) (drop f now)
    ∙ (λ k. changes_at names id f (slice_get-drop was f k) (slice_get-drop now f k) ++ fragment_changes names id (f + 1) (drop-drop 1 f was k) (drop-drop 1 f now k)))
    ∙ flat_map-append json_tokens (changes_at names id f (slice_get was f) (slice_get now f)) (fragment_changes names id (f + 1) (drop (f + 1) was) (drop (f + 1) now))

-- no fragment is left past the last ones
pub fragments-end : (names : List (List ℕ)) (id f : ℕ) (was now : List Fragment) → max (length was) (length now) ≤ f
    → tokens_of (fragment_changes names id f (drop f was) (drop f now)) ≡ []
fragments-end names id f was now past =
    (λ k. tokens_of (fragment_changes names id f (drop_all f was (omega arith) k) (drop_all f now (omega arith) k)))

-- no member is left where one of the ensembles ends
pub members-end : (names : List (List ℕ)) (id f i : ℕ) (was now : List ℕ) → min (length was) (length now) ≤ i
    → tokens_of (member_changes names id f i (drop i was) (drop i now)) ≡ []
members-end names id f i was now past = ap tokens_of none where
  no_members : (left : List ℕ) → member_changes names id f i left [] ≡ []
  no_members [] = refl
  no_members (b ∷ left) = refl

  none : member_changes names id f i (drop i was) (drop i now) ≡ []
  none = elim (cases_lt i (length was)) [
    | inl within ↦ ap (λ (left : List ℕ). member_changes names id f i (drop i was) left) (drop_all i now (omega arith)) ∙ no_members (drop i was)
    | inr gone ↦ ap (λ (left : List ℕ). member_changes names id f i left (drop i now)) (drop_all i was gone)
  ]
