-- A bookie of a cluster stays as it is shown, whatever bookies are added.
use Rattle.std.proofs.Common.{◌≡◌, ◌∙◌, ◌+◌, ◌&&◌, ◌||◌, cond, not, ℕ, zero, suc, Bool, true, false, List, [], ◌∷◌, length, position, Option, None, Some, nat_lt, refl, ap, sym, arith, true≢false}
use Rattle.std.specs.Prelude.{slice_get}
use Rattle.std.specs.Bool.{beq}
use Rattle.std.specs.List.{insert, list_any, prefix_len}
use Rattle.std.specs.Option.{is_some, option_and_then, option_map_or}
use Rattle.std.specs.Str.{bytes_eq}
use Rattle.std.proofs.lemmas.Bool.Decides.{nat_tests}
use Rattle.std.proofs.lemmas.Slice.Eq.{bytes_eq-Decides}
use Rattle.reh_census_file.specs.Values.{NamedCensus}
use Rattle.reh_picture.specs.declared.listings.Listed.{Listed}
use Rattle.reh_inputs.specs.declared.inputs.Input.{Input}
use Rattle.reh_inputs.specs.declared.inputs.Input.TheVariants.{Picture, Census}
use Rattle.reh_inputs.specs.Cluster.{Cluster, has_bookie, Keeps, is_shown_so, with_new}
use Rattle.reh_inputs.specs.Names.{place_of}
use Rattle.reh_inputs.specs.Shown.{Shown, is_like, is_same_rack}
use Rattle.reh_inputs.specs.United.{AreAlike, counted_at, shown_at, shows_counted, shows_listed}
use Rattle.reh_inputs.proofs.NamesLemmas.{found_any}
use Rattle.reh_inputs.proofs.UnitedLaws.{Matched}

first_or : (a b : Bool) → (a || b) ≡ false → a ≡ false
first_or true b none = cc
first_or false b none = refl

second_or : (a b : Bool) → (a || b) ≡ false → b ≡ false
second_or true b none = cc
second_or false b none = none

-- Two lists side by side: names, and what is shown of each

module _ {X : Type 0} where
  -- what is shown of the first such name
  abbrev pub shown_of : (List ℕ → Bool) → List (List ℕ) → List X → Option X
  shown_of p [] shown = None
  shown_of p (x ∷ xs) [] = None
  shown_of p (x ∷ xs) (s ∷ ss) = cond (p x) (Some s) (shown_of p xs ss)

  next : (n : ℕ) (s : X) (ss : List X) → slice_get (s ∷ ss) (1 + n) ≡ slice_get ss n
  next n s ss = ap (slice_get (s ∷ ss)) (let one : 1 + n ≡ suc n = omega arith in one)

  abbrev nothing : List X
  nothing = []

  none_there : (n : ℕ) → slice_get nothing n ≡ None
  none_there n = refl

  at_place : (p : List ℕ → Bool) (xs : List (List ℕ)) (shown : List X)
      → cond (nat_lt (prefix_len (λ x. not (p x)) xs) (length xs)) (slice_get shown (prefix_len (λ x. not (p x)) xs)) None
      ≡ shown_of p xs shown
  at_place p [] shown = refl
  at_place p (x ∷ xs) [] = empty (nat_lt (prefix_len (λ x. not (p x)) (x ∷ xs)) (length (x ∷ xs))) where
    empty : (b : Bool) → cond b (slice_get nothing (prefix_len (λ x. not (p x)) (x ∷ xs))) None ≡ None
    empty true = none_there (prefix_len (λ x. not (p x)) (x ∷ xs))
    empty false = refl
  at_place p (x ∷ xs) (s ∷ ss) = by (p x) (at_place p xs ss) where
    more_lt : (n k : ℕ) → nat_lt (1 + n) (suc k) ≡ nat_lt n k
    more_lt n k = grind (arith, nat_tests)

    first_lt : (k : ℕ) → nat_lt 0 (suc k) ≡ true
    first_lt k = grind (arith, nat_tests)

    by : (b : Bool)
        → cond (nat_lt (prefix_len (λ x. not (p x)) xs) (length xs)) (slice_get ss (prefix_len (λ x. not (p x)) xs)) None ≡ shown_of p xs ss
        → cond (nat_lt (cond (not b) (1 + prefix_len (λ x. not (p x)) xs) 0) (length (x ∷ xs)))
        (slice_get (s ∷ ss) (cond (not b) (1 + prefix_len (λ x. not (p x)) xs) 0)) None
        ≡ cond b (Some s) (shown_of p xs ss)
    by true later = ap (λ b. cond b (Some s) None) (first_lt (length xs))
    by false later =
        (λ i. cond (more_lt (prefix_len (λ x. not (p x)) xs) (length xs) i) (next (prefix_len (λ x. not (p x)) xs) s ss i) None)
        ∙ later

  pub shown-found : (p : List ℕ → Bool) (xs : List (List ℕ)) (shown : List X)
      → option_and_then (slice_get shown) (position p xs) ≡ shown_of p xs shown
  shown-found p xs shown =
      by (nat_lt (prefix_len (λ x. not (p x)) xs) (length xs)) ∙ at_place p xs shown where
        by : (b : Bool) → option_and_then (slice_get shown) (cond b (Some (prefix_len (λ x. not (p x)) xs)) None)
            ≡ cond b (slice_get shown (prefix_len (λ x. not (p x)) xs)) None
        by true = refl
        by false = refl

  -- another name more, wherever it is put
  pub shown-other : (p : List ℕ → Bool) (x : List ℕ) (s : X) → p x ≡ false → (n : ℕ) (xs : List (List ℕ)) (shown : List X)
      → length xs ≡ length shown → shown_of p (insert xs n x) (insert shown n s) ≡ shown_of p xs shown
  shown-other p x s other zero xs shown long = ap (λ b. cond b (Some s) (shown_of p xs shown)) other
  shown-other p x s other (suc n) [] [] long = ap (λ b. cond b (Some s) None) other
  shown-other p x s other (suc n) [] (t ∷ ts) long = absurd (omega (arith, long))
  shown-other p x s other (suc n) (y ∷ ys) [] long = absurd (omega (arith, long))
  shown-other p x s other (suc n) (y ∷ ys) (t ∷ ts) long =
      ap (cond (p y) (Some t)) (shown-other p x s other n ys ts (omega (arith, long)))

  -- and the name itself
  pub shown-new : (p : List ℕ → Bool) (x : List ℕ) (s : X) → p x ≡ true → (n : ℕ) (xs : List (List ℕ)) (shown : List X)
      → length xs ≡ length shown → list_any p xs ≡ false → shown_of p (insert xs n x) (insert shown n s) ≡ Some s
  shown-new p x s is zero xs shown long none = ap (λ b. cond b (Some s) (shown_of p xs shown)) is
  shown-new p x s is (suc n) [] [] long none = ap (λ b. cond b (Some s) None) is
  shown-new p x s is (suc n) [] (t ∷ ts) long none = absurd (omega (arith, long))
  shown-new p x s is (suc n) (y ∷ ys) [] long none = absurd (omega (arith, long))
  shown-new p x s is (suc n) (y ∷ ys) (t ∷ ts) long none =
      ap (λ b. cond b (Some t) (shown_of p (insert ys n x) (insert ts n s))) (first_or (p y) (list_any p ys) none)
      ∙ shown-new p x s is n ys ts (omega (arith, long)) (second_or (p y) (list_any p ys) none)

-- A bookie that the cluster shows so

-- it is one of the cluster's
pub is_there : (cluster : Cluster) (name : List ℕ) (shown : Shown) → is_shown_so cluster name shown ≡ true
    → has_bookie cluster name ≡ true
is_there cluster name shown so = by (position (bytes_eq name) cluster.names) so where
  by : (o : Option ℕ) → option_map_or (λ b. is_like b shown) (option_and_then (slice_get cluster.shown) o) false ≡ true
      → is_some o ≡ true
  by None so = cc
  by (Some n) so = refl

-- and another bookie that isn't is another one
apart : (cluster : Cluster) (name other : List ℕ) → has_bookie cluster name ≡ true → has_bookie cluster other ≡ false
    → bytes_eq name other ≡ false
apart cluster name other has new = by (bytes_eq name other) refl where
  by : (b : Bool) → bytes_eq name other ≡ b → b ≡ false
  by false is = refl
  by true is =
      let same : name ≡ other = (bytes_eq-Decides name other).0 is in
      absurd (true≢false (sym has ∙ ap (has_bookie cluster) same ∙ new))

-- A bookie more

module _ (cluster : Cluster) (name : List ℕ) (shown : Shown) (matched : Matched cluster) (new : has_bookie cluster name ≡ false) where
  -- the others stay
  pub Keeps-new : Keeps cluster (with_new cluster name shown)
  Keeps-new other s so =
      let place = place_of cluster.names name in
      ap (λ o. option_map_or (λ b. is_like b s) o false)
      (shown-found (bytes_eq other) (insert cluster.names place name) (insert cluster.shown place shown)
      ∙ shown-other (bytes_eq other) name shown (apart cluster other name (is_there cluster other s so) new) place cluster.names cluster.shown matched
      ∙ sym (shown-found (bytes_eq other) cluster.names cluster.shown))
      ∙ so

  -- and it is shown so
  pub so-new : is_shown_so (with_new cluster name shown) name shown ≡ true
  so-new =
      let place = place_of cluster.names name in
      ap (λ o. option_map_or (λ b. is_like b shown) o false)
      (shown-found (bytes_eq name) (insert cluster.names place name) (insert cluster.shown place shown)
      ∙ shown-new (bytes_eq name) name shown ((bytes_eq-Decides name name).1 refl) place cluster.names cluster.shown matched
      (sym (found_any (bytes_eq name) cluster.names) ∙ new))
      ∙ like-itself shown where
        beq-itself : (b : Bool) → beq b b ≡ true
        beq-itself true = refl
        beq-itself false = refl

        rack-itself : (rack : Option (List ℕ)) → is_same_rack rack rack ≡ true
        rack-itself None = refl
        rack-itself (Some rack) = (bytes_eq-Decides rack rack).1 refl

        like-itself : (s : Shown) → is_like s s ≡ true
        like-itself s =
            λ i. beq-itself s.is_registered i && (beq-itself s.is_read_only i && (beq-itself s.is_empty i && rack-itself s.rack i))

-- What is kept

pub Keeps-listed : (before after : Cluster) → Keeps before after → (l : Listed) (n : ℕ)
    → shows_listed before l n ≡ true → shows_listed after l n ≡ true
Keeps-listed before after keeps l n = by (slice_get l.listing.names n) where
  by : (name : Option (List ℕ))
      → option_map_or (λ name. is_shown_so before name (shown_at l n)) name true ≡ true
      → option_map_or (λ name. is_shown_so after name (shown_at l n)) name true ≡ true
  by None so = refl
  by (Some name) so = keeps name (shown_at l n) so

pub Keeps-counted : (before after : Cluster) → Keeps before after → (c : NamedCensus) (n : ℕ)
    → shows_counted before c n ≡ true → shows_counted after c n ≡ true
Keeps-counted before after keeps c n = by (slice_get c.names n) where
  by : (name : Option (List ℕ))
      → option_map_or (λ name. is_shown_so before name (counted_at c n)) name true ≡ true
      → option_map_or (λ name. is_shown_so after name (counted_at c n)) name true ≡ true
  by None so = refl
  by (Some name) so = keeps name (counted_at c n) so

pub AreAlike-kept : (before after : Cluster) → Keeps before after → (input : Input)
    → AreAlike before input → AreAlike after input
AreAlike-kept before after keeps (Picture l) alike = λ n within. Keeps-listed before after keeps l n (alike n within)
AreAlike-kept before after keeps (Census c) alike = λ n within. Keeps-counted before after keeps c n (alike n within)
