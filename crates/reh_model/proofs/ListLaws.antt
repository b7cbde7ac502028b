-- Lists with one element changed.
use Rattle.std.proofs.Common.{◌≡◌, ◌≢◌, ◌<◌, ℕ, zero, suc, List, [], ◌∷◌, ◌++◌, length, get_or, set, refl, sym, ap, ◌∙◌, arith}
use Rattle.std.specs.Prelude.{Some, slice_get, All}
use Rattle.std.specs.Option.{option_map}
use Rattle.std.proofs.lemmas.List.Elements.{All-cons, All-head, All-tail}
use Rattle.reh_model.specs.Cluster.{change_at}
use Rattle.reh_model.specs.Places.{read_at}

module _ {X : Type 0} where
  pub change_at-length : (xs : List X) (i : ℕ) (f : X → X) → length (change_at xs i f) ≡ length xs
  change_at-length [] i f = refl
  change_at-length (x ∷ xs) zero f = refl
  change_at-length (x ∷ xs) (suc i) f = ap suc (change_at-length xs i f)

  -- changes that commute at each element commute, wherever they are made
  pub change_at-comm : (f g : X → X) → ((x : X) → g (f x) ≡ f (g x)) → (xs : List X) (i j : ℕ) → change_at (change_at xs i f) j g ≡ change_at (change_at xs j g) i f
  change_at-comm f g h [] i j = refl
  change_at-comm f g h (x ∷ xs) zero zero = ap (λ y. y ∷ xs) (h x)
  change_at-comm f g h (x ∷ xs) zero (suc j) = refl
  change_at-comm f g h (x ∷ xs) (suc i) zero = refl
  change_at-comm f g h (x ∷ xs) (suc i) (suc j) = ap (λ ys. x ∷ ys) (change_at-comm f g h xs i j)

  -- changes at different places commute
  pub change_at-apart : (f g : X → X) (xs : List X) (i j : ℕ) → i ≢ j → change_at (change_at xs i f) j g ≡ change_at (change_at xs j g) i f
  change_at-apart f g [] i j h = refl
  change_at-apart f g (x ∷ xs) zero zero h = absurd (h refl)
  change_at-apart f g (x ∷ xs) zero (suc j) h = refl
  change_at-apart f g (x ∷ xs) (suc i) zero h = refl
  change_at-apart f g (x ∷ xs) (suc i) (suc j) h = ap (λ ys. x ∷ ys) (change_at-apart f g xs i j (λ e. h (ap suc e)))

  module _ {C : Type 0} (get : X → C) where
    pub read_at-apart : (f : X → X) (xs : List X) (i j : ℕ) (d : C) → i ≢ j → read_at get (change_at xs i f) j d ≡ read_at get xs j d
    read_at-apart f [] i j d h = refl
    read_at-apart f (x ∷ xs) zero zero d h = absurd (h refl)
    read_at-apart f (x ∷ xs) zero (suc j) d h = refl
    read_at-apart f (x ∷ xs) (suc i) zero d h = refl
    read_at-apart f (x ∷ xs) (suc i) (suc j) d h = read_at-apart f xs i j d (λ e. h (ap suc e))

    -- another part of the elements is changed
    pub read_at-part : (f : X → X) → ((x : X) → get (f x) ≡ get x) → (xs : List X) (i j : ℕ) (d : C) → read_at get (change_at xs i f) j d ≡ read_at get xs j d
    read_at-part f h [] i j d = refl
    read_at-part f h (x ∷ xs) zero zero d = h x
    read_at-part f h (x ∷ xs) zero (suc j) d = refl
    read_at-part f h (x ∷ xs) (suc i) zero d = refl
    read_at-part f h (x ∷ xs) (suc i) (suc j) d = read_at-part f h xs i j d

    pub slice_get-apart : (f : X → X) (xs : List X) (i j : ℕ) → i ≢ j → option_map get (slice_get (change_at xs i f) j) ≡ option_map get (slice_get xs j)
    slice_get-apart f [] i j h = refl
    slice_get-apart f (x ∷ xs) zero zero h = absurd (h refl)
    slice_get-apart f (x ∷ xs) zero (suc j) h = refl
    slice_get-apart f (x ∷ xs) (suc i) zero h = refl
    slice_get-apart f (x ∷ xs) (suc i) (suc j) h = slice_get-apart f xs i j (λ e. h (ap suc e))

    pub slice_get-part : (f : X → X) → ((x : X) → get (f x) ≡ get x) → (xs : List X) (i j : ℕ) → option_map get (slice_get (change_at xs i f) j) ≡ option_map get (slice_get xs j)
    slice_get-part f h [] i j = refl
    slice_get-part f h (x ∷ xs) zero zero = ap Some (h x)
    slice_get-part f h (x ∷ xs) zero (suc j) = refl
    slice_get-part f h (x ∷ xs) (suc i) zero = refl
    slice_get-part f h (x ∷ xs) (suc i) (suc j) = slice_get-part f h xs i j

    module _ (put : C → X → X) where
      -- putting what was read there changes nothing
      pub change_at-read : ((x : X) → put (get x) x ≡ x) → (xs : List X) (i : ℕ) (d : C) → change_at xs i (put (read_at get xs i d)) ≡ xs
      change_at-read h [] i d = refl
      change_at-read h (x ∷ xs) zero d = ap (λ y. y ∷ xs) (h x)
      change_at-read h (x ∷ xs) (suc i) d = ap (λ ys. x ∷ ys) (change_at-read h xs i d)

      pub change_at-twice : ((c d : C) (x : X) → put c (put d x) ≡ put c x) → (c d : C) (xs : List X) (i : ℕ) → change_at (change_at xs i (put d)) i (put c) ≡ change_at xs i (put c)
      change_at-twice h c d [] i = refl
      change_at-twice h c d (x ∷ xs) zero = ap (λ y. y ∷ xs) (h c d x)
      change_at-twice h c d (x ∷ xs) (suc i) = ap (λ ys. x ∷ ys) (change_at-twice h c d xs i)

      pub read_at-put : ((c : C) (x : X) → get (put c x) ≡ c) → (c : C) (xs : List X) (i : ℕ) → read_at get (change_at xs i (put c)) i (read_at get xs i c) ≡ c
      read_at-put h c [] i = refl
      read_at-put h c (x ∷ xs) zero = h c x
      read_at-put h c (x ∷ xs) (suc i) = read_at-put h c xs i

-- an assignment at an index that is there
pub set-change_at : {X : Type 0} (f : X → X) (xs : List X) (i : ℕ) (d : X) → set xs i (f (get_or xs i d)) ≡ change_at xs i f
set-change_at f [] i d = refl
set-change_at f (x ∷ xs) zero d = refl
set-change_at f (x ∷ xs) (suc i) d = ap (λ ys. x ∷ ys) (set-change_at f xs i d)

-- the same, for an element that was read there
pub set-read : {X : Type 0} (f : X → X) (xs : List X) (i : ℕ) (x : X) → x ≡ get_or xs i x → set xs i (f x) ≡ change_at xs i f
set-read f xs i x is = ap (λ y. set xs i (f y)) is ∙ set-change_at f xs i x

pub read_at-there : {X C : Type 0} (get : X → C) (xs : List X) (i : ℕ) (x : X) (d : C) → i < length xs → x ≡ get_or xs i x → get x ≡ read_at get xs i d
read_at-there get [] i x d within is = absurd (omega arith)
read_at-there get (y ∷ xs) zero x d within is = ap get is
read_at-there get (y ∷ xs) (suc i) x d within is = read_at-there get xs i x d (omega arith) is

-- Changes of an element that is known

module _ {X : Type 0} where
  pub change_at-then : (f g : X → X) (xs : List X) (i : ℕ) → change_at (change_at xs i f) i g ≡ change_at xs i (λ x. g (f x))
  change_at-then f g [] i = refl
  change_at-then f g (x ∷ xs) zero = refl
  change_at-then f g (x ∷ xs) (suc i) = ap (λ ys. x ∷ ys) (change_at-then f g xs i)

  pub change_at-here : (f h : X → X) (xs : List X) (i : ℕ) (x : X) → x ≡ get_or xs i x → f x ≡ h x → change_at xs i f ≡ change_at xs i h
  change_at-here f h xs i x is e = sym (set-read f xs i x is) ∙ ap (λ y. set xs i y) e ∙ set-read h xs i x is

  pub change_at-same : (f : X → X) (xs : List X) (i : ℕ) (x : X) → x ≡ get_or xs i x → f x ≡ x → change_at xs i f ≡ xs
  change_at-same f [] i x is e = refl
  change_at-same f (y ∷ ys) zero x is e = ap (λ z. z ∷ ys) (ap f (sym is) ∙ e ∙ is)
  change_at-same f (y ∷ ys) (suc i) x is e = ap (λ zs. y ∷ zs) (change_at-same f ys i x is e)

  pub change_at-front : (f : X → X) (front : List X) (x : X) (xs : List X) → change_at (front ++ x ∷ xs) (length front) f ≡ front ++ f x ∷ xs
  change_at-front f [] x xs = refl
  change_at-front f (y ∷ front) x xs = ap (λ zs. y ∷ zs) (change_at-front f front x xs)

  pub slice_get-front : (front : List X) (x : X) (xs : List X) → slice_get (front ++ x ∷ xs) (length front) ≡ Some x
  slice_get-front [] x xs = refl
  slice_get-front (y ∷ front) x xs = slice_get-front front x xs

  pub slice_get-there : (xs : List X) (i : ℕ) (x : X) → i < length xs → x ≡ get_or xs i x → slice_get xs i ≡ Some x
  slice_get-there [] i x within is = absurd (omega arith)
  slice_get-there (y ∷ ys) zero x within is = ap Some (sym is)
  slice_get-there (y ∷ ys) (suc i) x within is = slice_get-there ys i x (omega arith) is

  pub slice_get-here : (f : X → X) (xs : List X) (i : ℕ) → slice_get (change_at xs i f) i ≡ option_map f (slice_get xs i)
  slice_get-here f [] i = refl
  slice_get-here f (x ∷ xs) zero = refl
  slice_get-here f (x ∷ xs) (suc i) = slice_get-here f xs i

  -- an element that is put there stands there,
  pub slice_get-put : (c : X) (xs : List X) (i : ℕ) → i < length xs → slice_get (change_at xs i (λ _. c)) i ≡ Some c
  slice_get-put c [] i within = absurd (omega (arith, within))
  slice_get-put c (x ∷ xs) zero within = refl
  slice_get-put c (x ∷ xs) (suc i) within = slice_get-put c xs i (omega (arith, within))

  -- and leaves the others
  pub slice_get-others : (f : X → X) (xs : List X) (i j : ℕ) → i ≢ j → slice_get (change_at xs i f) j ≡ slice_get xs j
  slice_get-others f [] i j h = refl
  slice_get-others f (x ∷ xs) zero zero h = absurd (h refl)
  slice_get-others f (x ∷ xs) zero (suc j) h = refl
  slice_get-others f (x ∷ xs) (suc i) zero h = refl
  slice_get-others f (x ∷ xs) (suc i) (suc j) h = slice_get-others f xs i j (λ e. h (ap suc e))

  -- what holds of all elements and of the one that is put there holds of all then
  pub All-put : (P : X → Type 0) (c : X) → P c → (xs : List X) (i : ℕ) → All P xs → All P (change_at xs i (λ _. c))
  All-put P c is [] i each = each
  All-put P c is (x ∷ xs) zero each = All-cons P c xs is (All-tail P x xs each)
  All-put P c is (x ∷ xs) (suc i) each =
      All-cons P x (change_at xs i (λ _. c)) (All-head P x xs each) (All-put P c is xs i (All-tail P x xs each))
