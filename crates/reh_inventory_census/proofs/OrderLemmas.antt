-- Names that are each there once, and names in the order of their bytes.
use Rattle.std.proofs.Common.{◌≡◌, ◌∙◌, ℕ, zero, suc, refl, ◌+◌, ◌<◌, Bool, true, false, Bor, List, [], ◌∷◌, ◌++◌, Option, Some, None, ap, arith, drop, if◌then◌else◌, length, map, not, option_map, slice_get, slice_index_or, subst, sym, take, IsPermutation, IsSorted}
use Rattle.std.proofs.lemmas.List.{get_or-map, length-map, map_more, map_push, take_more}
use Rattle.std.proofs.lemmas.List.Sorted.{IsPermutation-map}
use Rattle.std.proofs.lemmas.Map.Keys.{IsDistinct-IsPermutation}
use Rattle.std.proofs.lemmas.Bool.{true≢false}
use Rattle.std.proofs.lemmas.Option.{get_or_from_slice_get, slice_get-get_or}
use Rattle.std.proofs.lemmas.Slice.Eq.{bytes_eq-Decides}
use Rattle.std.specs.Cmp.Lexicographic.{slice_cmp}
use Rattle.std.specs.List.{IsDistinct, list_any}
use Rattle.std.specs.Option.{is_some}
use Rattle.std.specs.Ordering.{is_lt, nat_cmp}
use Rattle.std.specs.Str.{bytes_eq}
use Rattle.reh_census_file.proofs.OrderLaws.{names_sym, new-before}

bytes_eq-sym : (x y : List ℕ) → bytes_eq x y ≡ bytes_eq y x
bytes_eq-sym x y = go (bytes_eq x y) (λ k. bytes_eq x y)
  where
    go : (b : Bool) → bytes_eq x y ≡ b → bytes_eq x y ≡ bytes_eq y x
    go false e = e ∙ sym (names_sym x y e)
    go true e = e ∙ sym ((bytes_eq-Decides y x).1 (sym ((bytes_eq-Decides x y).0 e)))

-- names that differ do so in each order
pub distinct-permuted : (texts others : List (Bor (List ℕ))) → IsPermutation texts others
    → IsDistinct bytes_eq (map (λ text. text.now) texts) → IsDistinct bytes_eq (map (λ text. text.now) others)
distinct-permuted texts others same =
    IsDistinct-IsPermutation bytes_eq bytes_eq-sym (map (λ text. text.now) texts) (map (λ text. text.now) others)
    (IsPermutation-map (λ text. text.now) texts others same)

-- texts in the order of their bytes
pub sorted-names : (texts : List (Bor (List ℕ))) → IsSorted (λ x y. slice_cmp nat_cmp x.now y.now) texts
    → IsSorted (slice_cmp nat_cmp) (map (λ text. text.now) texts)
sorted-names [] sorted k d from below = absurd (omega (arith, below))
sorted-names (t ∷ ts) sorted k d from below =
    let names = map (λ text. text.now) (t ∷ ts) in
    let far : k + 1 < length (t ∷ ts) = omega (arith, below, length-map (t ∷ ts) (λ text. text.now)) in
    ap (λ (x : List ℕ). is_lt (slice_cmp nat_cmp x (slice_index_or names k d)))
    (get_or-map (λ text. text.now) (t ∷ ts) (k + 1) t d far)
    ∙ ap (λ (y : List ℕ). is_lt (slice_cmp nat_cmp (slice_index_or (t ∷ ts) (k + 1) t).now y))
    (get_or-map (λ text. text.now) (t ∷ ts) k t d (omega (arith, far)))
    ∙ sorted k t from far

-- one more name was read
pub texts-more : (names : List (List ℕ)) (i : ℕ) (before : List (Bor (List ℕ))) (text : Bor (List ℕ)) (read : Option (Bor (List ℕ)))
    → i < length names → option_map (λ t. t.now) read ≡ slice_get names i → read ≡ Some text → map (λ t. t.now) before ≡ take i names
    → map (λ t. t.now) (before ++ text ∷ []) ≡ take (i + 1) names
texts-more names i before text read below is there was =
    map_push (λ t. t.now) before text
    ∙ ap (λ (l : List (List ℕ)). l ++ text.now ∷ []) was
    ∙ ap (λ (n : List ℕ). take i names ++ n ∷ []) (sym (get_or_from_slice_get names i text.now text.now (sym is ∙ ap (option_map (λ t. t.now)) there)))
    ∙ sym (take_more names i text.now below)

-- a name is there below the end
pub texts-end : (names : List (List ℕ)) (i : ℕ) (read : Option (Bor (List ℕ))) → i < length names
    → option_map (λ t. t.now) read ≡ slice_get names i → read ≡ None → ⊥
texts-end names i read below is none =
    true≢false (sym (ap is_some (sym (ap (option_map (λ t. t.now)) none) ∙ is ∙ slice_get-get_or names i [] below)))

-- one more name was added
pub names-more : (texts : List (Bor (List ℕ))) (i : ℕ) (d : Bor (List ℕ)) (before after : List (List ℕ)) (new : Bool)
    → i < length texts → IsDistinct bytes_eq (map (λ text. text.now) texts) → before ≡ map (λ text. text.now) (take i texts)
    → new ≡ not (list_any (bytes_eq (slice_index_or texts i d).now) before)
    → after ≡ (if new then before ++ (slice_index_or texts i d).now ∷ [] else before)
    → after ≡ map (λ text. text.now) (take (i + 1) texts)
names-more texts i d before after new below apart was is-new is =
    let name = (slice_index_or texts i d).now in
    let rest = map (λ text. text.now) (drop (i + 1) texts) in
    let other : list_any (bytes_eq name) (map (λ text. text.now) (take i texts)) ≡ false =
    new-before (map (λ text. text.now) (take i texts)) name rest
    (subst (IsDistinct bytes_eq) (sym whole) apart) in
    is
    ∙ ap (λ (b : Bool). if b then before ++ name ∷ [] else before)
    (is-new ∙ ap (λ (l : List (List ℕ)). not (list_any (bytes_eq name) l)) was ∙ ap not other)
    ∙ ap (λ (l : List (List ℕ)). l ++ name ∷ []) was
    ∙ sym (map_more (λ text. text.now) texts i d below)
  where
    parts : (i : ℕ) (texts : List (Bor (List ℕ))) → i < length texts
        → map (λ text. text.now) (take i texts) ++ (slice_index_or texts i d).now ∷ map (λ text. text.now) (drop (suc i) texts)
        ≡ map (λ text. text.now) texts
    parts i [] below = absurd (omega (arith, below))
    parts zero (t ∷ ts) below = refl
    parts (suc i) (t ∷ ts) below = ap (λ (l : List (List ℕ)). t.now ∷ l) (parts i ts (omega (arith, below)))

    on : i + 1 ≡ suc i
    on = omega arith

    whole : map (λ text. text.now) (take i texts) ++ (slice_index_or texts i d).now ∷ map (λ text. text.now) (drop (i + 1) texts)
        ≡ map (λ text. text.now) texts
    whole = ap (λ (n : ℕ). map (λ text. text.now) (take i texts) ++ (slice_index_or texts i d).now ∷ map (λ text. text.now) (drop n texts)) on ∙ parts i texts below
