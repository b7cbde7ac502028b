-- Numbers from 0 on, and one more.
use Rattle.std.proofs.Common.{◌≡◌, ℕ, zero, suc, ◌+◌, ◌-◌, ◌<◌, List, ◌++◌, ◌∷◌, [], length, get_or, map, take, append-nil, ap, sym, ◌∙◌, refl, arith, ◌≤◌, Bool, true, false, cond}
use Rattle.reh_census.specs.declared.classes.Class.{Class}
use Rattle.reh_census.specs.declared.classes.Counted.{Counted}
use Rattle.reh_census.specs.Counting.{count_in, entries_in}
use Rattle.std.proofs.lemmas.List.Sums.{sum_by_more_le_part}
use Rattle.std.specs.List.{flat_map}
use Rattle.std.proofs.lemmas.List.{append_assoc, length-append, map-append, take_more}
use Rattle.std.proofs.lemmas.List.Concat.{flat_map-append}
use Rattle.std.specs.Prelude.{slice_get}
use Rattle.std.specs.Option.{option_map_or}
use Rattle.std.specs.List.{range_with_len}
use Rattle.reh_census.proofs.RangeLaws.{range-append}
use Rattle.reh_census.specs.Striping.{range}

pub range-more : (n : ℕ) → range 0 (n + 1) ≡ range 0 n ++ n ∷ []
range-more n =
    let long : n + 1 - 0 ≡ (n - 0) + 1 = omega arith in
    let last : 0 + (n - 0) ≡ n = omega arith in
    ap (λ k. range_with_len 0 k) long ∙ range-append 0 (n - 0) 1
    ∙ ap (λ k. range_with_len 0 (n - 0) ++ k ∷ []) last

-- what is made of the element of that number, which there is
pub at_place : {A B : Type 0} (f : A → B) (d : B) (e : A) (xs : List A) (k : ℕ) → k < length xs
    → option_map_or f (slice_get xs k) d ≡ f (get_or xs k e)
at_place f d e [] k within = absurd (omega arith)
at_place f d e (x ∷ xs) zero within = refl
at_place f d e (x ∷ xs) (suc k) within = at_place f d e xs k (omega arith)

-- one element more, of which something is made
module _ {A B : Type 0} (xs : List A) (k : ℕ) (x : A) (within : k < length xs) (is : x ≡ get_or xs k x) where
  pub map_more : (f : A → B) → map f (take (k + 1) xs) ≡ map f (take k xs) ++ f x ∷ []
  map_more f =
      ap (map f) (take_more xs k x within) ∙ map-append f (take k xs) (get_or xs k x ∷ [])
      ∙ ap (λ y. map f (take k xs) ++ f y ∷ []) (sym is)

  pub flat_map_more : (f : A → List B) → flat_map f (take (k + 1) xs) ≡ flat_map f (take k xs) ++ f x
  flat_map_more f =
      ap (flat_map f) (take_more xs k x within) ∙ flat_map-append f (take k xs) (get_or xs k x ∷ [])
      ∙ ap (λ y. flat_map f (take k xs) ++ (f y ++ [])) (sym is)
      ∙ ap (λ ys. flat_map f (take k xs) ++ ys) (append-nil (f x))

-- the same of lists that are made
module _ {A B : Type 0} (f : A → B) (xs : List A) (k : ℕ) (d : A) (made more : List B) (y : B) (within : k < length xs)
    (is : more ≡ made ++ y ∷ []) (at : y ≡ f (get_or xs k d)) where
  pub pushed : made ≡ map f (take k xs) → more ≡ map f (take (k + 1) xs)
  pushed was =
      is ∙ (λ i. was i ++ at i ∷ []) ∙ sym (map-append f (take k xs) (get_or xs k d ∷ []))
      ∙ ap (map f) (sym (take_more xs k d within))

  pub pushed-after : (before : List B) → made ≡ before ++ map f (take k xs) → more ≡ before ++ map f (take (k + 1) xs)
  pushed-after before was =
      is ∙ (λ i. was i ++ at i ∷ []) ∙ append_assoc before (map f (take k xs)) (f (get_or xs k d) ∷ [])
      ∙ ap (λ ys. before ++ ys) (sym (map-append f (take k xs) (get_or xs k d ∷ [])) ∙ ap (map f) (sym (take_more xs k d within)))

module _ {A B : Type 0} (f : A → List B) (xs : List A) (k : ℕ) (x : A) (made more : List B) (within : k < length xs)
    (at : x ≡ get_or xs k x) (is : more ≡ made ++ f x) where
  pub joined : made ≡ flat_map f (take k xs) → more ≡ flat_map f (take (k + 1) xs)
  joined was = is ∙ ap (λ ys. ys ++ f x) was ∙ sym (flat_map_more xs k x within at f)

  pub joined-after : (before : List B) → made ≡ before ++ flat_map f (take k xs) → more ≡ before ++ flat_map f (take (k + 1) xs)
  joined-after before was =
      is ∙ ap (λ ys. ys ++ f x) was ∙ append_assoc before (flat_map f (take k xs)) (f x)
      ∙ ap (λ ys. before ++ ys) (sym (flat_map_more xs k x within at f))

-- what passes a test, of so many that are passed, and one more, are within all
some_count : (b : Bool) (n : ℕ) → cond b n 0 ≤ n
some_count true n = omega arith
some_count false n = omega arith

pub counted-fits : (items : List Counted) (test : Class → Bool) (i : ℕ) (x : Counted) → i < length items
    → count_in (take i items) test + (get_or items i x).count ≤ entries_in items
counted-fits items test i x within =
    sum_by_more_le_part (λ y. cond (test y.class) y.count 0) (λ y. y.count) items i x within
    (λ y. some_count (test y.class) y.count)

-- lists that are made of the same elements are as long as each other where each two parts are
pub same_lengths : {X A B : Type 0} (f : X → List A) (g : X → List B) → ((x : X) → length (f x) ≡ length (g x))
    → (xs : List X) → length (flat_map f xs) ≡ length (flat_map g xs)
same_lengths f g each [] = refl
same_lengths f g each (x ∷ xs) =
    omega (
      arith,
      length-append (f x) (flat_map f xs),
      length-append (g x) (flat_map g xs),
      each x,
      same_lengths f g each xs,
    )
