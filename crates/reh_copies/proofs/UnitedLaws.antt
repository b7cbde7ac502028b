-- The cluster of one picture alone: its bookies, in the order of their names, and the numbers that they have there.
use Rattle.std.proofs.Common.{◌≡◌, ℕ, zero, suc, ◌+◌, ◌-◌, ◌<◌, ◌≤◌, Bool, true, false, cond, not, ◌&&◌, ◌||◌, List, [], ◌∷◌, map, length, take, drop, get_or, fold, Option, None, Some, is_none, refl, sym, ap, ◌∙◌, subst, arith, nat_lt, inl, inr}
use Rattle.std.specs.Prelude.{◌==◌, All, count_by, slice_get, slice_index, unwrap_or, if◌then◌else◌}
use Rattle.std.specs.List.{IsDistinct, filter, insert, list_any, prefix_len, position_or_len, range_with_len}
use Rattle.std.specs.Option.{option_map, option_map_or}
use Rattle.std.specs.Str.{bytes_eq}
use Rattle.std.proofs.lemmas.Bool.{cases_lt, false_from_ne_true}
use Rattle.std.proofs.lemmas.Bool.Decides.{nat_tests}
use Rattle.std.proofs.lemmas.List.{get_or-map, get_or_past, length-map}
use Rattle.std.proofs.lemmas.List.FromFn.{length-range_with_len}
use Rattle.std.proofs.lemmas.List.Sums.{length-filter}
use Rattle.std.proofs.lemmas.Map.Made.{AllPairs-from_IsDistinct}
use Rattle.std.proofs.lemmas.Option.{get_or_from_slice_get, slice_get-get_or, slice_get-map, slice_get_within}
use Rattle.std.proofs.lemmas.Slice.Eq.{bytes_eq-Decides}
use Rattle.reh_census.specs.Bookies.{bookies_of as census_bookies, holders, is_holder}
use Rattle.reh_census.specs.Order.{InOrder, names_cmp}
use Rattle.reh_census.specs.Striping.{range}
use Rattle.reh_census.proofs.CountLaws.{count-append, count-cons}
use Rattle.reh_census.proofs.RangeLaws.{range-append}
use Rattle.reh_model.proofs.Ranges.{Passes, any_passes, passes_any, list_any-map, list_any-same, same_answer}
use Rattle.reh_picture.specs.declared.listings.Listed.{Listed}
use Rattle.reh_picture.specs.Marks.{BookieMarks}
use Rattle.reh_inputs.specs.declared.inputs.Input.TheVariants.{Picture}
use Rattle.reh_inputs.specs.Cluster.{Cluster, bookie_of, bookies_of, has_bookie, no_bookies, with_bookie, with_new}
use Rattle.reh_inputs.specs.Names.{place_of}
use Rattle.reh_inputs.specs.Shown.{Shown, shown_by}
use Rattle.reh_inputs.specs.Ledgers.{number_in}
use Rattle.reh_inputs.specs.United.{number_of, shown_at, united, with_listed}
use Rattle.reh_inputs.proofs.NameOrder.{insert-map, new_in_order}
use Rattle.reh_inputs.proofs.NamesLemmas.{found_any}
use Rattle.reh_inputs.proofs.UnitedLaws.{InOrder-united}
use Rattle.reh_copies.proofs.CopyLaws.{some_left}

-- Lists

-- an element more, wherever it is put
count-parts : {X : Type 0} (p : X → Bool) (xs : List X) (n : ℕ) → count_by p xs ≡ count_by p (take n xs) + count_by p (drop n xs)
count-parts p [] zero = refl
count-parts p [] (suc n) = refl
count-parts p (x ∷ xs) zero = let none : count_by p (x ∷ xs) ≡ 0 + count_by p (x ∷ xs) = omega arith in none
count-parts p (x ∷ xs) (suc n) =
    omega (arith, count-cons p x xs, count-cons p x (take n xs), count-parts p xs n)

count-insert : {X : Type 0} (p : X → Bool) (xs : List X) (n : ℕ) (x : X)
    → count_by p (insert xs n x) ≡ count_by p xs + cond (p x) 1 0
count-insert p xs n x =
    omega (arith, count-append p (take n xs) (x ∷ drop n xs), count-cons p x (drop n xs), count-parts p xs n)

count-all : {X : Type 0} (xs : List X) → length xs ≡ count_by (λ _. true) xs
count-all [] = refl
count-all (x ∷ xs) = ap suc (count-all xs) ∙ next (count_by (λ _. true) xs) ∙ sym (count-cons (λ _. true) x xs) where
  next : (n : ℕ) → suc n ≡ 1 + n
  next n = omega arith

-- some element passes where the count isn't 0
pub some_counted : {X : Type 0} (p : X → Bool) (xs : List X) → nat_lt 0 (count_by p xs) ≡ list_any p xs
some_counted p xs = ap (nat_lt 0) (sym (length-filter p xs)) ∙ some_left p xs

-- a test of the numbers from one on, that is a test of a list's elements in turn
pub count-places : (p q : ℕ → Bool) (a : ℕ) (xs : List ℕ) → ((j : ℕ) → j < length xs → p (a + j) ≡ q (get_or xs j 0))
    → count_by p (range_with_len a (length xs)) ≡ count_by q xs
count-places p q a [] same = refl
count-places p q a (x ∷ xs) same =
    let first : a + 0 ≡ a = omega arith in
    count-cons p a (range_with_len (a + 1) (length xs))
    ∙ (λ i. cond ((ap p (sym first) ∙ same 0 (omega arith)) i) 1 0
    + count-places p q (a + 1) xs (λ j below.
    let next : (a + 1) + j ≡ a + suc j = omega arith in
    ap p next ∙ same (suc j) (omega (arith, below))) i)
    ∙ sym (count-cons q x xs)

-- the element at a place is one of the list, and one of the list is at some place
among_at : (xs : List ℕ) (c : ℕ) → c < length xs → list_any (λ x. x == get_or xs c 0) xs ≡ true
among_at [] c below = absurd (omega (arith, below))
among_at (x ∷ xs) zero below =
    let itself : (x == x) ≡ true = grind (arith, nat_tests) in ap (λ b. b || list_any (λ y. y == x) xs) itself
among_at (x ∷ xs) (suc c) below = later (x == get_or xs c 0) _ (among_at xs c (omega (arith, below))) where
  later : (a b : Bool) → b ≡ true → (a || b) ≡ true
  later true b is = refl
  later false b is = is

record Place (xs : List ℕ) (m : ℕ) : Type 0 where
  pub at : ℕ
  pub below : at < length xs
  pub is : get_or xs at 0 ≡ m

Place-among : (xs : List ℕ) (m : ℕ) → list_any (λ x. x == m) xs ≡ true → Place xs m
Place-among [] m any = cc
Place-among (x ∷ xs) m any =
    elim (x == m) as (λ b. (x == m) ≡ b → (b || list_any (λ y. y == m) xs) ≡ true → Place (x ∷ xs) m) [
      | true ↦ λ here _. let same : x ≡ m = grind (arith, nat_tests, here) in record { at = 0; below = omega arith; is = same }
      | false ↦ λ _ any. let w = Place-among xs m any in record { at = suc w.at; below = omega (arith, w.below); is = w.is }
    ] refl any

-- the first element that passes is where none before it does
first_false : (a b : Bool) → (a || b) ≡ false → a ≡ false
first_false true b none = cc
first_false false b none = refl

second_false : (a b : Bool) → (a || b) ≡ false → b ≡ false
second_false true b none = cc
second_false false b none = none

first_at : (p : List ℕ → Bool) (xs : List (List ℕ)) (c : ℕ) → c < length xs → list_any p (take c xs) ≡ false
    → p (get_or xs c []) ≡ true → position_or_len p xs ≡ c
first_at p [] c below none hit = absurd (omega (arith, below))
first_at p (x ∷ xs) zero below none hit = ap (λ b. cond (not b) (1 + prefix_len (λ y. not (p y)) xs) 0) hit
first_at p (x ∷ xs) (suc c) below none hit =
    ap (λ b. cond (not b) (1 + prefix_len (λ y. not (p y)) xs) 0) (first_false (p x) (list_any p (take c xs)) none)
    ∙ ap (λ n. 1 + n) (first_at p xs c (omega (arith, below)) (second_false (p x) (list_any p (take c xs)) none) hit)
    ∙ next c where
      next : (n : ℕ) → 1 + n ≡ suc n
      next n = omega arith

-- so of names in order each has its place as its number
number_of-place : (names : List (List ℕ)) → InOrder names_cmp names → (c : ℕ) → c < length names
    → number_of names (get_or names c []) ≡ c
number_of-place names order c below =
    let name = get_or names c [] in
    let inside : nat_lt c (length names) ≡ true = grind (arith, nat_tests, below) in
    ap (λ n. unwrap_or (cond (nat_lt n (length names)) (Some n) None) 65535)
    (first_at (bytes_eq name) names c below (new_in_order names c [] order below) ((bytes_eq-Decides name name).1 refl))
    ∙ ap (λ b. unwrap_or (cond b (Some c) None) 65535) inside

-- Write sets

-- an ensemble's members by other numbers: where a number is that of a bookie, an index names it where it did
numbered_member : (numbers ensemble : List ℕ) (c b : ℕ) → ((m : ℕ) → (number_in numbers m == c) ≡ (m == b))
    → (i : ℕ) → i < length ensemble → (slice_index (map (number_in numbers) ensemble) i == c) ≡ (slice_index ensemble i == b)
numbered_member numbers ensemble c b same i within =
    ap (λ n. n == c) (get_or-map (number_in numbers) ensemble i 0 0 within) ∙ same (get_or ensemble i 0)

-- and so write sets name it where they did
pub numbered_members : (numbers ensemble : List ℕ) (index : ℕ → ℕ) → ((j : ℕ) → index j < length ensemble)
    → (ranks : List ℕ) (c b : ℕ) → ((m : ℕ) → (number_in numbers m == c) ≡ (m == b))
    → list_any (λ m. m == c) (map (λ i. slice_index (map (number_in numbers) ensemble) i) (map index ranks))
    ≡ list_any (λ m. m == b) (map (λ i. slice_index ensemble i) (map index ranks))
numbered_members numbers ensemble index within ranks c b same =
    list_any-map (λ m. m == c) (λ i. slice_index (map (number_in numbers) ensemble) i) (map index ranks)
    ∙ list_any-map (λ i. slice_index (map (number_in numbers) ensemble) i == c) index ranks
    ∙ list_any-same (λ j. slice_index (map (number_in numbers) ensemble) (index j) == c)
    (λ j. slice_index ensemble (index j) == b) (λ j. numbered_member numbers ensemble c b same (index j) (within j)) ranks
    ∙ sym (list_any-map (λ i. slice_index ensemble i == b) index ranks)
    ∙ sym (list_any-map (λ m. m == b) (λ i. slice_index ensemble i) (map index ranks))

-- The cluster

module _ (l : Listed) where
  -- how many bookies the picture has, and the name of each
  abbrev pub bookie_count : ℕ
  bookie_count = length l.listing.names

  abbrev name_at : ℕ → List ℕ
  name_at b = get_or l.listing.names b []

  -- the first bookies of the picture, in the order of their names
  abbrev pub ordered : ℕ → List ℕ
  ordered zero = []
  ordered (suc k) = insert (ordered k) (place_of (map name_at (ordered k)) (name_at k)) k

  -- each is there once
  pub ordered-counted : (p : ℕ → Bool) (k : ℕ) → count_by p (ordered k) ≡ count_by p (range_with_len 0 k)
  ordered-counted p zero = refl
  ordered-counted p (suc k) =
      let long : suc k ≡ k + 1 = omega arith in
      let last : 0 + k ≡ k = omega arith in
      let range_more : count_by p (range_with_len 0 (suc k)) ≡ count_by p (range_with_len 0 k) + count_by p (k ∷ []) =
      ap (λ n. count_by p (range_with_len 0 n)) long
      ∙ ap (count_by p) (range-append 0 k 1)
      ∙ count-append p (range_with_len 0 k) (range_with_len (0 + k) 1)
      ∙ ap (λ b. count_by p (range_with_len 0 k) + count_by p (b ∷ [])) last in
      let one : count_by p (k ∷ []) ≡ cond (p k) 1 0 + 0 = count-cons p k [] in
      omega (
        arith,
        count-insert p (ordered k) (place_of (map name_at (ordered k)) (name_at k)) k,
        ordered-counted p k,
        range_more,
        one,
      )

  pub length-ordered : (k : ℕ) → length (ordered k) ≡ k
  length-ordered k =
      count-all (ordered k) ∙ ordered-counted (λ _. true) k ∙ sym (count-all (range_with_len 0 k))
      ∙ length-range_with_len 0 k

  ordered-any : (p : ℕ → Bool) (k : ℕ) → list_any p (ordered k) ≡ list_any p (range_with_len 0 k)
  ordered-any p k =
      sym (some_counted p (ordered k)) ∙ ap (nat_lt 0) (ordered-counted p k) ∙ some_counted p (range_with_len 0 k)

  -- the cluster of the first bookies
  abbrev firsts : ℕ → Cluster
  firsts k = record { names = map name_at (ordered k); shown = map (shown_at l) (ordered k) }

  module _ (distinct : IsDistinct bytes_eq l.listing.names) where
    new_name : (k : ℕ) → k < bookie_count → has_bookie (firsts k) (name_at k) ≡ false
    new_name k within =
        found_any (bytes_eq (name_at k)) (map name_at (ordered k))
        ∙ list_any-map (bytes_eq (name_at k)) name_at (ordered k)
        ∙ ordered-any (λ b. bytes_eq (name_at k) (name_at b)) k
        ∙ false_from_ne_true (list_any (λ b. bytes_eq (name_at k) (name_at b)) (range_with_len 0 k)) (λ any.
        let w : Passes (λ b. bytes_eq (name_at k) (name_at b)) 0 k =
        any_passes (λ b. bytes_eq (name_at k) (name_at b)) 0 k any in
        let below : w.at < k = omega (arith, w.below) in
        AllPairs-from_IsDistinct bytes_eq-Decides l.listing.names distinct w.at k [] below within
        (sym ((bytes_eq-Decides (name_at k) (name_at w.at)).0 w.passes)))

    one_more : (k : ℕ) → k < bookie_count → with_listed l (firsts k) k ≡ firsts (suc k)
    one_more k within =
        let place = place_of (map name_at (ordered k)) (name_at k) in
        ap (λ (o : Option (List ℕ)). option_map_or (λ name. with_bookie (firsts k) name (shown_at l k)) o (firsts k))
        (slice_get-get_or l.listing.names k [] within)
        ∙ ap (λ b. if b then firsts k else with_new (firsts k) (name_at k) (shown_at l k)) (new_name k within)
        ∙ (λ i. record {
          names = sym (insert-map name_at (ordered k) place k) i;
          shown = sym (insert-map (shown_at l) (ordered k) place k) i;
        })

    -- and all of them
    all_from : (k m : ℕ) → k + m ≡ bookie_count → fold (with_listed l) (firsts k) (range_with_len k m) ≡ firsts bookie_count
    all_from k zero end = let same : k ≡ bookie_count = omega (arith, end) in ap firsts same
    all_from k (suc m) end =
        let next : suc k ≡ k + 1 = omega arith in
        ap (λ cluster. fold (with_listed l) cluster (range_with_len (k + 1) m))
        (one_more k (omega (arith, end)) ∙ ap firsts next)
        ∙ all_from (k + 1) m (omega (arith, end))

    pub alone : united (Picture l ∷ []) ≡ firsts bookie_count
    alone =
        let long : bookie_count - 0 ≡ bookie_count = omega arith in
        let start : 0 + bookie_count ≡ bookie_count = omega arith in
        ap (λ k. fold (with_listed l) no_bookies (range_with_len 0 k)) long ∙ all_from 0 bookie_count start

    -- Numbers

    abbrev names_alone : List (List ℕ)
    names_alone = map name_at (ordered bookie_count)

    -- the bookie of the picture that has this number in the cluster
    abbrev pub bookie_at : ℕ → ℕ
    bookie_at c = get_or (ordered bookie_count) c 0

    number_at : (c : ℕ) → c < bookie_count → number_of names_alone (name_at (bookie_at c)) ≡ c
    number_at c below =
        let order : InOrder names_cmp names_alone =
        subst (λ (cluster : Cluster). InOrder names_cmp cluster.names) alone (InOrder-united (Picture l ∷ [])) in
        let inside : c < length (ordered bookie_count) = omega (arith, below, length-ordered bookie_count) in
        let within : c < length names_alone = omega (arith, inside, length-map (ordered bookie_count) name_at) in
        ap (number_of names_alone) (sym (get_or-map name_at (ordered bookie_count) c 0 [] inside))
        ∙ number_of-place names_alone order c within

    pub bookie_at-below : (c : ℕ) → c < bookie_count → bookie_at c < bookie_count
    bookie_at-below c below =
        let b = bookie_at c in
        let inside : c < length (ordered bookie_count) = omega (arith, below, length-ordered bookie_count) in
        let w : Passes (λ x. x == b) 0 bookie_count =
        any_passes (λ x. x == b) 0 bookie_count
        (sym (ordered-any (λ x. x == b) bookie_count) ∙ among_at (ordered bookie_count) c inside) in
        let here : (w.at == b) ≡ true = w.passes in
        let same : w.at ≡ b = grind (arith, nat_tests, here) in
        omega (arith, same, w.below)

    -- a bookie of a picture with few names has that number, and no other bookie has it
    pub numbered : bookie_count ≤ 64 → (c : ℕ) → c < bookie_count → (m : ℕ)
        → (number_in (map (number_of (united (Picture l ∷ [])).names) l.listing.names) m == c) ≡ (m == bookie_at c)
    numbered few c below m =
        ap (λ (cluster : Cluster). number_in (map (number_of cluster.names) l.listing.names) m == c) alone
        ∙ elim (cases_lt m bookie_count) [
          | inl within ↦
              let inside : m < 0 + bookie_count = omega (arith, within) in
              let itself : (m == m) ≡ true = grind (arith, nat_tests) in
              let w : Place (ordered bookie_count) m =
              Place-among (ordered bookie_count) m
              (ordered-any (λ x. x == m) bookie_count ∙ passes_any (λ x. x == m) 0 bookie_count m (omega arith) inside itself) in
              let at_below : w.at < bookie_count = omega (arith, w.below, length-ordered bookie_count) in
              let number : number_of names_alone (name_at m) ≡ w.at =
              ap (λ b. number_of names_alone (name_at b)) (sym w.is) ∙ number_at w.at at_below in
              ap (λ n. n == c) (get_or-map (number_of names_alone) l.listing.names m [] 65535 within ∙ number)
              ∙ same_answer (w.at == c) (m == bookie_at c) (λ hit.
              let place : w.at ≡ c = grind (arith, nat_tests, hit) in
              let same : m ≡ bookie_at c = sym w.is ∙ ap bookie_at place in
              grind (arith, nat_tests, same)) (λ hit.
              let same : m ≡ bookie_at c = grind (arith, nat_tests, hit) in
              let place : w.at ≡ c = sym number ∙ ap (λ b. number_of names_alone (name_at b)) same ∙ number_at c below in
              grind (arith, nat_tests, place))
          | inr past ↦
              let numbers = map (number_of names_alone) l.listing.names in
              let long : length numbers ≤ m = omega (arith, past, length-map l.listing.names (number_of names_alone)) in
              let none : number_in numbers m ≡ 65535 = get_or_past numbers m 65535 long in
              let apart : (65535 == c) ≡ false = grind (arith, nat_tests, few, below) in
              let low : bookie_at c < bookie_count = bookie_at-below c below in
              let other : (m == bookie_at c) ≡ false = grind (arith, nat_tests, past, low) in
              ap (λ n. n == c) none ∙ apart ∙ sym other
        ]

    -- Who may hold copies

    -- a bookie of the picture may hold copies where it is registered, if none is empty
    pub may_hold : All (λ m. m.is_empty ≡ false) l.marks.items → (c : ℕ) → c < bookie_count
        → is_holder (census_bookies (bookies_of (united (Picture l ∷ [])))) c
        ≡ option_map_or is_none (slice_get l.listing.lost_at.items (bookie_at c)) false
    may_hold none c below =
        let b = bookie_at c in
        let shown : List Shown = map (shown_at l) (ordered bookie_count) in
        let up = option_map_or is_none (slice_get l.listing.lost_at.items b) false in
        let inside : c < length (ordered bookie_count) = omega (arith, below, length-ordered bookie_count) in
        let found : slice_get shown c ≡ Some (shown_at l b) =
        slice_get-map (shown_at l) (ordered bookie_count) c
        ∙ ap (option_map (shown_at l)) (slice_get-get_or (ordered bookie_count) c 0 inside) in
        let is : slice_get (map (bookie_of shown) shown) c ≡ Some (bookie_of shown (shown_at l b)) =
        slice_get-map (bookie_of shown) shown c ∙ ap (option_map (bookie_of shown)) found in
        ap (λ (cluster : Cluster). is_holder (census_bookies (bookies_of cluster)) c) alone
        ∙ (λ i. option_map_or (λ found. found.is_registered) (is i) false && not (option_map_or (λ found. found.is_empty) (is i) false))
        ∙ (λ i. shown_up up (slice_get l.marks.items b) i && not (shown_empty up l.marks.items none b i))
        ∙ and_true up where
          shown_up : (up : Bool) (marks : Option BookieMarks)
              → (option_map_or (λ (m : BookieMarks). shown_by up m.is_read_only m.is_empty m.rack) marks (shown_by up false false None)).is_registered
              ≡ up
          shown_up up None = refl
          shown_up up (Some m) = refl

          shown_empty : (up : Bool) (marks : List BookieMarks) → All (λ m. m.is_empty ≡ false) marks → (k : ℕ)
              → (option_map_or (λ (m : BookieMarks). shown_by up m.is_read_only m.is_empty m.rack) (slice_get marks k) (shown_by up false false None)).is_empty
              ≡ false
          shown_empty up marks none k = by (slice_get marks k) refl where
            by : (o : Option BookieMarks) → slice_get marks k ≡ o
                → (option_map_or (λ (m : BookieMarks). shown_by up m.is_read_only m.is_empty m.rack) o (shown_by up false false None)).is_empty ≡ false
            by None is = refl
            by (Some m) is =
                ap (λ (m : BookieMarks). m.is_empty) (sym (get_or_from_slice_get marks k m m is))
                ∙ none k m (slice_get_within marks k m is)

          and_true : (a : Bool) → (a && true) ≡ a
          and_true true = refl
          and_true false = refl

    -- and they are all among the bookies of the picture
    pub holders-alone : holders (census_bookies (bookies_of (united (Picture l ∷ []))))
        ≡ filter (is_holder (census_bookies (bookies_of (united (Picture l ∷ [])))))
        (range_with_len 0 (length (ordered bookie_count)))
    holders-alone =
        let bookies = bookies_of (united (Picture l ∷ [])) in
        let shown : List Shown = map (shown_at l) (ordered bookie_count) in
        let count : length bookies ≡ length (ordered bookie_count) =
        ap (λ (cluster : Cluster). length (bookies_of cluster)) alone
        ∙ length-map shown (bookie_of shown) ∙ length-map (ordered bookie_count) (shown_at l) in
        let long : length (ordered bookie_count) - 0 ≡ length (ordered bookie_count) = omega arith in
        ap (λ k. filter (is_holder (census_bookies bookies)) (range 0 k)) count
        ∙ ap (λ k. filter (is_holder (census_bookies bookies)) (range_with_len 0 k)) long
