-- Names in their order: where one stands, or would.
use Rattle.std.proofs.Common.{◌≡◌, ◌∙◌, ◌+◌, ◌<◌, ◌≤◌, ◌||◌, cond, not, ℕ, zero, suc, Bool, true, false, List, [], ◌∷◌, ◌++◌, length, get_or, map, take, drop, position, Option, None, Some, nat_lt, refl, ap, sym, subst, arith, true≢false}
use Rattle.std.specs.Prelude.{slice_get}
use Rattle.std.specs.List.{insert, list_any, prefix_len}
use Rattle.std.specs.List.Sorted.{IsPartitionedBy, IsPartitionPoint}
use Rattle.std.specs.Option.{is_some, option_map_or}
use Rattle.std.specs.Ordering.{is_eq, is_lt, ordering_reverse}
use Rattle.std.specs.Str.{bytes_eq}
use Rattle.std.specs.declared.cmp.Ordering.{Ordering}
use Rattle.std.specs.declared.cmp.Ordering.TheVariants.{Less, Equal, Greater}
use Rattle.std.proofs.lemmas.Bool.Decides.{nat_tests}
use Rattle.std.proofs.lemmas.List.{drop-map, map-append, take-map}
use Rattle.std.proofs.lemmas.List.Sums.{prefix_len_is}
use Rattle.std.proofs.lemmas.Map.Text.{is_eq-slice_cmp}
use Rattle.reh_census.proofs.OrderLaws.{names_total}
use Rattle.reh_census.specs.Order.{InOrder, names_cmp}
use Rattle.reh_inputs.specs.Names.{place_of}
use Rattle.reh_inputs.proofs.NamesLemmas.{found_any}

-- the name comes before each of these
abbrev pub Before : List ℕ → List (List ℕ) → Type 0
Before x [] = Unit {0}
Before x (y ∷ ys) = (names_cmp x y ≡ Less) × Before x ys

-- each comes before those after it
abbrev pub Ranked : List (List ℕ) → Type 0
Ranked [] = Unit {0}
Ranked (x ∷ xs) = Before x xs × Ranked xs

Before-trans : (x y : List ℕ) (ys : List (List ℕ)) → names_cmp x y ≡ Less → Before y ys → Before x ys
Before-trans x y [] less before = tt
Before-trans x y (z ∷ zs) less before =
    (names_total.trans x y z less before.0, Before-trans x y zs less before.1)

later : (x : List ℕ) (xs : List (List ℕ)) (k : ℕ) (d : List ℕ) → get_or (x ∷ xs) (k + 1) d ≡ get_or xs k d
later x xs k d = ap (λ (n : ℕ). get_or (x ∷ xs) n d) (let next : k + 1 ≡ suc k = omega arith in next)

tail : (x : List ℕ) (xs : List (List ℕ)) → InOrder names_cmp (x ∷ xs) → InOrder names_cmp xs
tail x xs order k d below =
    sym (λ i. names_cmp (later x xs k d i) (later x xs (k + 1) d i)) ∙ order (k + 1) d (omega (arith, below))

pub Ranked-in_order : (xs : List (List ℕ)) → InOrder names_cmp xs → Ranked xs
Ranked-in_order [] order = tt
Ranked-in_order (x ∷ []) order = (tt, tt)
Ranked-in_order (x ∷ y ∷ ys) order =
    let first : names_cmp x y ≡ Less = order 0 x (omega arith) in
    let rest : Ranked (y ∷ ys) = Ranked-in_order (y ∷ ys) (tail x (y ∷ ys) order) in
    ((first, Before-trans x y ys first rest.0), rest)

pub InOrder-ranked : (xs : List (List ℕ)) → Ranked xs → InOrder names_cmp xs
InOrder-ranked [] ranked k d below = absurd (omega (arith, below))
InOrder-ranked (x ∷ []) ranked k d below = absurd (omega (arith, below))
InOrder-ranked (x ∷ y ∷ ys) ranked zero d below = ranked.0.0
InOrder-ranked (x ∷ y ∷ ys) ranked (suc k) d below =
    let behind : suc k + 1 ≡ (k + 1) + 1 = omega arith in
    ap (λ (z : List ℕ). names_cmp (get_or (y ∷ ys) k d) z)
    (ap (λ (n : ℕ). get_or (x ∷ y ∷ ys) n d) behind ∙ later x (y ∷ ys) (k + 1) d)
    ∙ InOrder-ranked (y ∷ ys) ranked.1 k d (omega (arith, below))

turned : (x name : List ℕ) (o : Ordering) → names_cmp x name ≡ o → names_cmp name x ≡ ordering_reverse o
turned x name o is = names_total.antisymm name x ∙ ap ordering_reverse is

same_by : (x name : List ℕ) (o : Ordering) → names_cmp x name ≡ o → bytes_eq name x ≡ is_eq (ordering_reverse o)
same_by x name o is = sym (is_eq-slice_cmp name x) ∙ ap is_eq (turned x name o is)

before_by : (x name : List ℕ) (o : Ordering) → names_cmp x name ≡ o → is_lt (names_cmp x name) ≡ is_lt o
before_by x name o is = ap is_lt is

more : (n : ℕ) → 1 + n ≡ suc n
more n = omega arith

module _ (name : List ℕ) where
  abbrev p : List ℕ → Bool
  p x = is_lt (names_cmp x name)

  abbrev q : List ℕ → Bool
  q x = bytes_eq name x

  -- with the name at its place
  abbrev placed : List (List ℕ) → List (List ℕ)
  placed [] = name ∷ []
  placed (x ∷ xs) = cond (p x) (x ∷ placed xs) (name ∷ x ∷ xs)

  pub insert-placed : (xs : List (List ℕ)) → insert xs (place_of xs name) name ≡ placed xs
  insert-placed [] = refl
  insert-placed (x ∷ xs) =
      elim (p x) as (λ b. take (cond b (1 + place_of xs name) 0) (x ∷ xs) ++ name ∷ drop (cond b (1 + place_of xs name) 0) (x ∷ xs) ≡ cond b (x ∷ placed xs) (name ∷ x ∷ xs)) [
        | true ↦
            ap (λ (n : ℕ). take n (x ∷ xs) ++ name ∷ drop n (x ∷ xs)) (more (place_of xs name))
            ∙ ap (λ (ys : List (List ℕ)). x ∷ ys) (insert-placed xs)
        | false ↦ refl
      ]

  Before-placed : (x : List ℕ) (xs : List (List ℕ)) → names_cmp x name ≡ Less → Before x xs → Before x (placed xs)
  Before-placed x [] less before = (less, tt)
  Before-placed x (y ∷ ys) less before =
      elim (p y) as (λ b. Before x (cond b (y ∷ placed ys) (name ∷ y ∷ ys))) [
        | true ↦ (before.0, Before-placed x ys less before.1)
        | false ↦ (less, before)
      ]

  or_false : (a b : Bool) → (a || b) ≡ false → (a ≡ false) × (b ≡ false)
  or_false true b none = cc
  or_false false b none = (refl, none)

  placed_by : (x : List ℕ) (xs : List (List ℕ)) → Ranked (x ∷ xs) → q x ≡ false → Ranked (placed xs) → (o : Ordering) → names_cmp x name ≡ o
      → Ranked (cond (p x) (x ∷ placed xs) (name ∷ x ∷ xs))
  placed_by x xs ranked apart rest Less is =
      subst (λ (b : Bool). Ranked (cond b (x ∷ placed xs) (name ∷ x ∷ xs))) (sym (before_by x name Less is))
      (Before-placed x xs is ranked.0, rest)
  placed_by x xs ranked apart rest Equal is = absurd (true≢false (sym (same_by x name Equal is) ∙ apart))
  placed_by x xs ranked apart rest Greater is =
      let first : names_cmp name x ≡ Less = turned x name Greater is in
      subst (λ (b : Bool). Ranked (cond b (x ∷ placed xs) (name ∷ x ∷ xs))) (sym (before_by x name Greater is))
      ((first, Before-trans name x xs first ranked.0), ranked)

  pub Ranked-placed : (xs : List (List ℕ)) → Ranked xs → list_any q xs ≡ false → Ranked (placed xs)
  Ranked-placed [] ranked new = (tt, tt)
  Ranked-placed (x ∷ xs) ranked new =
      let apart : (q x ≡ false) × (list_any q xs ≡ false) = or_false (q x) (list_any q xs) new in
      placed_by x xs ranked apart.0 (Ranked-placed xs ranked.1 apart.1) (names_cmp x name) refl

  none_after : (xs : List (List ℕ)) → Before name xs → list_any q xs ≡ false
  none_after [] before = refl
  none_after (x ∷ xs) before =
      λ i. (sym (is_eq-slice_cmp name x) ∙ ap is_eq before.0) i || none_after xs before.1 i

  abbrev stands : List (List ℕ) → ℕ → Bool
  stands xs n = option_map_or q (slice_get xs n) false

  passed : (x : List ℕ) (xs : List (List ℕ)) → names_cmp x name ≡ Less → stands (x ∷ xs) (place_of (x ∷ xs) name) ≡ stands xs (place_of xs name)
  passed x xs is =
      ap (λ (n : ℕ). stands (x ∷ xs) n)
      (ap (λ (b : Bool). cond b (1 + place_of xs name) 0) (before_by x name Less is) ∙ more (place_of xs name))

  absent_by : (x : List ℕ) (xs : List (List ℕ)) → Ranked (x ∷ xs) → stands (x ∷ xs) (place_of (x ∷ xs) name) ≡ false
      → (stands xs (place_of xs name) ≡ false → list_any q xs ≡ false) → (o : Ordering) → names_cmp x name ≡ o
      → (q x || list_any q xs) ≡ false
  absent_by x xs ranked missed rest Less is =
      λ i. same_by x name Less is i || rest (sym (passed x xs is) ∙ missed) i
  absent_by x xs ranked missed rest Equal is =
      absurd (true≢false (sym (same_by x name Equal is)
      ∙ sym (ap (λ (b : Bool). stands (x ∷ xs) (cond b (1 + place_of xs name) 0)) (before_by x name Equal is)) ∙ missed))
  absent_by x xs ranked missed rest Greater is =
      let first : names_cmp name x ≡ Less = turned x name Greater is in
      λ i. same_by x name Greater is i || none_after xs (Before-trans name x xs first ranked.0) i

  -- where the name isn't at its place, it isn't there
  pub absent : (xs : List (List ℕ)) → Ranked xs → stands xs (place_of xs name) ≡ false → list_any q xs ≡ false
  absent [] ranked missed = refl
  absent (x ∷ xs) ranked missed = absent_by x xs ranked missed (absent xs ranked.1) (names_cmp x name) refl

  first_by : (x : List ℕ) (xs : List (List ℕ)) → stands (x ∷ xs) (place_of (x ∷ xs) name) ≡ true
      → (stands xs (place_of xs name) ≡ true → prefix_len (λ x. not (q x)) xs ≡ place_of xs name) → (o : Ordering) → names_cmp x name ≡ o
      → cond (not (q x)) (1 + prefix_len (λ x. not (q x)) xs) 0 ≡ cond (p x) (1 + place_of xs name) 0
  first_by x xs there rest Less is =
      ap (λ (b : Bool). cond (not b) (1 + prefix_len (λ x. not (q x)) xs) 0) (same_by x name Less is)
      ∙ ap (λ (n : ℕ). 1 + n) (rest (sym (passed x xs is) ∙ there))
      ∙ sym (ap (λ (b : Bool). cond b (1 + place_of xs name) 0) (before_by x name Less is))
  first_by x xs there rest Equal is =
      ap (λ (b : Bool). cond (not b) (1 + prefix_len (λ x. not (q x)) xs) 0) (same_by x name Equal is)
      ∙ sym (ap (λ (b : Bool). cond b (1 + place_of xs name) 0) (before_by x name Equal is))
  first_by x xs there rest Greater is =
      absurd (true≢false (sym there
      ∙ ap (λ (b : Bool). stands (x ∷ xs) (cond b (1 + place_of xs name) 0)) (before_by x name Greater is)
      ∙ same_by x name Greater is))

  -- where it is, none before is it
  first : (xs : List (List ℕ)) → stands xs (place_of xs name) ≡ true → prefix_len (λ x. not (q x)) xs ≡ place_of xs name
  first [] there = cc
  first (x ∷ xs) there = first_by x xs there (first xs) (names_cmp x name) refl

  within : (xs : List (List ℕ)) (n : ℕ) → stands xs n ≡ true → n < length xs
  within [] n there = cc
  within (x ∷ xs) zero there = omega arith
  within (x ∷ xs) (suc n) there = omega (arith, within xs n there)

  lt : (n k : ℕ) → n < k → nat_lt n k ≡ true
  lt n k less = grind (arith, nat_tests)

  pub found : (xs : List (List ℕ)) → stands xs (place_of xs name) ≡ true → position q xs ≡ Some (place_of xs name)
  found xs there =
      ap (λ (n : ℕ). cond (nat_lt n (length xs)) (Some n) None) (first xs there)
      ∙ ap (λ (b : Bool). cond b (Some (place_of xs name)) None) (lt (place_of xs name) (length xs) (within xs (place_of xs name) there))

  none_by : (o : Option ℕ) → is_some o ≡ false → o ≡ None
  none_by None empty = refl
  none_by (Some n) empty = cc

  pub missing : (xs : List (List ℕ)) → InOrder names_cmp xs → stands xs (place_of xs name) ≡ false → position q xs ≡ None
  missing xs order none =
      none_by (position q xs) (found_any q xs ∙ absent xs (Ranked-in_order xs order) none)

  -- a name that isn't there comes into their order
  pub InOrder-insert : (xs : List (List ℕ)) → InOrder names_cmp xs → is_some (position q xs) ≡ false
      → InOrder names_cmp (insert xs (place_of xs name) name)
  InOrder-insert xs order new =
      subst (λ (ys : List (List ℕ)). InOrder names_cmp ys) (sym (insert-placed xs))
      (InOrder-ranked (placed xs) (Ranked-placed xs (Ranked-in_order xs order) (sym (found_any q xs) ∙ new)))

  -- those that come before the name stand before the others
  module _ {X : Type 0} (f : X → List ℕ) where
    before_at : (x : List ℕ) (xs : List X) (k : ℕ) (d : X) → Before x (map f xs) → k < length xs → names_cmp x (f (get_or xs k d)) ≡ Less
    before_at x [] k d before below = absurd (omega (arith, below))
    before_at x (y ∷ ys) zero d before below = before.0
    before_at x (y ∷ ys) (suc k) d before below = before_at x ys k d before.1 (omega (arith, below))

    is_less : (o : Ordering) → is_lt o ≡ true → o ≡ Less
    is_less Less lt = refl
    is_less Equal lt = cc
    is_less Greater lt = cc

    parted : (xs : List X) → Ranked (map f xs) → IsPartitionedBy (λ x. p (f x)) xs
    parted [] ranked i j d le below passes = absurd (omega (arith, below))
    parted (x ∷ xs) ranked zero zero d le below passes = passes
    parted (x ∷ xs) ranked zero (suc j) d le below passes =
        ap is_lt (names_total.trans (f x) (f (get_or xs j d)) name (before_at (f x) xs j d ranked.0 (omega (arith, below))) (is_less (names_cmp (f (get_or xs j d)) name) passes))
    parted (x ∷ xs) ranked (suc i) zero d le below passes = absurd (omega (arith, le))
    parted (x ∷ xs) ranked (suc i) (suc j) d le below passes =
        parted xs ranked.1 i j d (omega (arith, le)) (omega (arith, below)) passes

    pub IsPartitioned-in_order : (xs : List X) → InOrder names_cmp (map f xs) → IsPartitionedBy (λ x. p (f x)) xs
    IsPartitioned-in_order xs order = parted xs (Ranked-in_order (map f xs) order)

-- the point where a list is parted is how many elements pass at its head
pub point-prefix : {X : Type 0} (p : X → Bool) (xs : List X) (i : ℕ) → i ≤ length xs
    → IsPartitionPoint (λ x. p x ≡ true) (λ x. p x ≡ false) xs i → prefix_len p xs ≡ i
point-prefix p [] i le point = omega (arith, le)
point-prefix p (x ∷ xs) i le point =
    prefix_len_is p (x ∷ xs) i x le (λ k below. point.0 k x (omega arith) below) (λ below. point.1 i x (omega arith) below)

-- names in order are different: each is new to those before it
before_new : (x : List ℕ) (xs : List (List ℕ)) (k : ℕ) (d : List ℕ) → Before x xs → k < length xs → bytes_eq (get_or xs k d) x ≡ false
before_new x [] k d before below = absurd (omega (arith, below))
before_new x (y ∷ ys) zero d before below = same_by x y Less before.0
before_new x (y ∷ ys) (suc k) d before below = before_new x ys k d before.1 (omega (arith, below))

new_at : (xs : List (List ℕ)) (k : ℕ) (d : List ℕ) → Ranked xs → k < length xs → list_any (bytes_eq (get_or xs k d)) (take k xs) ≡ false
new_at [] k d ranked below = absurd (omega (arith, below))
new_at (x ∷ xs) zero d ranked below = refl
new_at (x ∷ xs) (suc k) d ranked below =
    λ i. before_new x xs k d ranked.0 (omega (arith, below)) i || new_at xs k d ranked.1 (omega (arith, below)) i

pub new_in_order : (xs : List (List ℕ)) (k : ℕ) (d : List ℕ) → InOrder names_cmp xs → k < length xs
    → list_any (bytes_eq (get_or xs k d)) (take k xs) ≡ false
new_in_order xs k d order below = new_at xs k d (Ranked-in_order xs order) below

-- texts, seen as their bytes, with one more
pub insert-map : {X Y : Type 0} (f : X → Y) (xs : List X) (n : ℕ) (x : X) → map f (insert xs n x) ≡ insert (map f xs) n (f x)
insert-map f xs n x =
    map-append f (take n xs) (x ∷ drop n xs)
    ∙ (λ i. sym (take-map f n xs) i ++ f x ∷ sym (drop-map f n xs) i)
