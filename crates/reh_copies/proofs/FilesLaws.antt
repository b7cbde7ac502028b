-- What census files counted is what is counted of their ledgers in the cluster of all inputs.
use Rattle.std.proofs.Common.{◌≡◌, ◌∙◌, ◌+◌, ◌-◌, ◌<◌, ◌&&◌, ◌||◌, cond, not, ℕ, zero, suc, Bool, true, false, List, [], ◌∷◌, ◌++◌, length, map, get_or, fold, position, Option, None, Some, nat_lt, refl, ap, sym, arith, length-append}
use Rattle.std.specs.Prelude.{◌==◌, All, count_by, sum_by, slice_get, unwrap_or}
use Rattle.std.specs.Bool.{beq}
use Rattle.std.specs.List.{AllByRecursion, Contains, flat_map, list_any, prefix_len}
use Rattle.std.specs.Option.{is_some, option_and_then, option_map, option_map_or}
use Rattle.std.specs.Ordering.{is_eq, ordering_reverse}
use Rattle.std.specs.Str.{bytes_eq}
use Rattle.std.specs.declared.cmp.Ordering.{Ordering}
use Rattle.std.specs.declared.cmp.Ordering.TheVariants.{Less, Greater}
use Rattle.std.proofs.lemmas.Bool.Decides.{nat_tests}
use Rattle.std.proofs.lemmas.List.{get_or-map, get_or_default, length-map}
use Rattle.std.proofs.lemmas.List.Concat.{flat_map-cons}
use Rattle.std.proofs.lemmas.List.Elements.{recursion_from_All}
use Rattle.std.proofs.lemmas.List.Sums.{sum_by-append}
use Rattle.std.proofs.lemmas.Map.Text.{is_eq-slice_cmp}
use Rattle.std.proofs.lemmas.Option.{slice_get-get_or, slice_get-map}
use Rattle.std.proofs.lemmas.Slice.Eq.{bytes_eq-Decides}
use Rattle.reh_census.specs.declared.bookies.Bookie.{Bookie}
use Rattle.reh_census.specs.declared.censuses.Judged.{Judged}
use Rattle.reh_census.specs.Bookies.{bookies_of as census_bookies, holders, is_holder}
use Rattle.reh_census.specs.Copies.{in_order, is_in}
use Rattle.reh_census.specs.Counting.{IsCensus, census_by, count_ledger, judged_sum, tail_of}
use Rattle.reh_census.specs.Ledgers.{Ledger}
use Rattle.reh_census.specs.Order.{InOrder, names_cmp}
use Rattle.reh_census.specs.Striping.{range}
use Rattle.reh_census.proofs.OrderLaws.{names_total}
use Rattle.reh_census.proofs.RuleLaws.{any-filter}
use Rattle.reh_census.proofs.TailLaws.{and-first, and-second}
use Rattle.reh_census_file.specs.Values.{NamedCensus}
use Rattle.reh_tally.proofs.PlacedLaws.{Rising-names}
use Rattle.reh_model.proofs.Ranges.{any_passes, passes_any}
use Rattle.reh_inputs.specs.declared.inputs.Input.{Input}
use Rattle.reh_inputs.specs.declared.inputs.Input.TheVariants.{Picture, Census}
use Rattle.reh_inputs.specs.declared.together.Gathered.{Gathered}
use Rattle.reh_inputs.specs.Cluster.{Cluster, bookie_of, bookies_of, has_bookie, is_shown_so, shown_as}
use Rattle.reh_inputs.specs.Gathered.{Gathers, holders_of, ledgers_of, reading_of, assumed_of}
use Rattle.reh_inputs.specs.Inputs.{of_census}
use Rattle.reh_inputs.specs.Ledgers.{number_in}
use Rattle.reh_inputs.specs.Renumbered.{ensembles_in, entries_in, files_of, judged_by, numbers_in, tails_in, with_judged}
use Rattle.reh_inputs.specs.Shown.{Shown, is_like, shown_by}
use Rattle.reh_inputs.specs.United.{AreAlike, shown_as as shown_in, counted_at, number_of, united}
use Rattle.reh_inputs.proofs.AddLaws.{IsCensus-adds}
use Rattle.reh_inputs.proofs.AlikeLaws.{is_there}
use Rattle.reh_inputs.proofs.NameOrder.{Before, Ranked, Ranked-in_order}
use Rattle.reh_inputs.proofs.NamesLemmas.{found_any}
use Rattle.reh_inputs.proofs.UnitedLaws.{Matched-united}
use Rattle.reh_copies.specs.Numbered.{CountedBy, ledger_numbered, ledgers_counted}
use Rattle.reh_copies.proofs.NumberedLaws.{IsCensus-numbered, in_below}

-- Names in their order

equal_names : (x y : List ℕ) → bytes_eq x y ≡ true → x ≡ y
equal_names x y is = (bytes_eq-Decides x y).0 is

apart_names : (x y : List ℕ) (o : Ordering) → names_cmp x y ≡ o → bytes_eq x y ≡ is_eq o
apart_names x y o is = sym (is_eq-slice_cmp x y) ∙ ap is_eq is

not_before : (x y : List ℕ) → names_cmp x y ≡ Less → names_cmp y x ≡ Less → ⊥
not_before x y less more =
    wrong (sym more ∙ names_total.antisymm y x ∙ ap ordering_reverse less) where
      wrong : Less ≡ Greater → ⊥
      wrong is = cc

before_at : (x y : List ℕ) (xs : List (List ℕ)) → Before x xs → list_any (bytes_eq y) xs ≡ true → names_cmp x y ≡ Less
before_at x y [] before there = cc
before_at x y (z ∷ zs) before there =
    elim (bytes_eq y z) as (λ b. bytes_eq y z ≡ b → (b || list_any (bytes_eq y) zs) ≡ true → names_cmp x y ≡ Less) [
      | true ↦ λ is _. ap (names_cmp x) (equal_names y z is) ∙ before.0
      | false ↦ λ _ later. before_at x y zs before.1 later
    ] refl there

-- a name that comes before another has the lower place
pub places-rising : (x y : List ℕ) → names_cmp x y ≡ Less → (names : List (List ℕ)) → Ranked names
    → list_any (bytes_eq x) names ≡ true → list_any (bytes_eq y) names ≡ true
    → prefix_len (λ n. not (bytes_eq x n)) names < prefix_len (λ n. not (bytes_eq y n)) names
places-rising x y less [] ranked one other = cc
places-rising x y less (n ∷ ns) ranked one other =
    elim (bytes_eq x n) as (λ b. bytes_eq x n ≡ b → (b || list_any (bytes_eq x) ns) ≡ true
    → cond (not b) (1 + prefix_len (λ n. not (bytes_eq x n)) ns) 0 < cond (not (bytes_eq y n)) (1 + prefix_len (λ n. not (bytes_eq y n)) ns) 0) [
      | true ↦ λ is _.
          let later : bytes_eq y n ≡ false =
          ap (bytes_eq y) (sym (equal_names x n is))
          ∙ apart_names y x Greater (names_total.antisymm y x ∙ ap ordering_reverse less) in
          let place : cond (not (bytes_eq y n)) (1 + prefix_len (λ n. not (bytes_eq y n)) ns) 0 ≡ 1 + prefix_len (λ n. not (bytes_eq y n)) ns =
          ap (λ b. cond (not b) (1 + prefix_len (λ n. not (bytes_eq y n)) ns) 0) later in
          omega (arith, place)
      | false ↦ λ _ there.
          elim (bytes_eq y n) as (λ b. bytes_eq y n ≡ b → (b || list_any (bytes_eq y) ns) ≡ true
          → 1 + prefix_len (λ n. not (bytes_eq x n)) ns < cond (not b) (1 + prefix_len (λ n. not (bytes_eq y n)) ns) 0) [
            | true ↦ λ is _.
                let front : names_cmp n x ≡ Less = before_at n x ns ranked.0 there in
                absurd (not_before x y less (ap (λ (k : List ℕ). names_cmp k x) (equal_names y n is) ∙ front))
            | false ↦ λ _ too. omega (arith, places-rising x y less ns ranked.1 there too)
          ] refl other
    ] refl one

ranked_at : (xs : List (List ℕ)) → Ranked xs → (a b : ℕ) (d : List ℕ) → a < b → b < length xs
    → names_cmp (get_or xs a d) (get_or xs b d) ≡ Less
ranked_at [] ranked a b d less below = absurd (omega (arith, below))
ranked_at (x ∷ xs) ranked zero zero d less below = absurd (omega (arith, less))
ranked_at (x ∷ xs) ranked zero (suc b) d less below = later x xs ranked.0 b (omega (arith, below)) where
  later : (x : List ℕ) (ys : List (List ℕ)) → Before x ys → (b : ℕ) → b < length ys → names_cmp x (get_or ys b d) ≡ Less
  later x [] before b below = absurd (omega (arith, below))
  later x (y ∷ ys) before zero below = before.0
  later x (y ∷ ys) before (suc b) below = later x ys before.1 b (omega (arith, below))
ranked_at (x ∷ xs) ranked (suc a) zero d less below = absurd (omega (arith, less))
ranked_at (x ∷ xs) ranked (suc a) (suc b) d less below =
    ranked_at xs ranked.1 a b d (omega (arith, less)) (omega (arith, below))

-- One census file

-- the number of a name that is there is its place
number_place : (names : List (List ℕ)) (name : List ℕ) → list_any (bytes_eq name) names ≡ true
    → number_of names name ≡ prefix_len (λ n. not (bytes_eq name n)) names
number_place names name any =
    by (nat_lt (prefix_len (λ n. not (bytes_eq name n)) names) (length names)) (found_any (bytes_eq name) names ∙ any) where
      by : (b : Bool) → is_some (cond b (Some (prefix_len (λ n. not (bytes_eq name n)) names)) None) ≡ true
          → unwrap_or (cond b (Some (prefix_len (λ n. not (bytes_eq name n)) names)) None) 65535
          ≡ prefix_len (λ n. not (bytes_eq name n)) names
      by true is = refl
      by false is = cc

module _ (cluster : Cluster) (order : InOrder names_cmp cluster.names) (matched : length cluster.names ≡ length cluster.shown)
    (c : NamedCensus) (census_order : InOrder names_cmp c.names) (each : length c.bookies ≡ length c.names)
    (alike : AreAlike cluster (Census c)) where
  abbrev name_at : ℕ → List ℕ
  name_at b = get_or c.names b []

  abbrev numbers : List ℕ
  numbers = numbers_in cluster.names c

  abbrev count : ℕ
  count = length c.names

  shown_at : (b : ℕ) → b < count → is_shown_so cluster (name_at b) (counted_at c b) ≡ true
  shown_at b below =
      sym (ap (λ name. option_map_or (λ name. is_shown_so cluster name (counted_at c b)) name true)
      (slice_get-get_or c.names b [] below))
      ∙ alike b below

  has_at : (b : ℕ) → b < count → has_bookie cluster (name_at b) ≡ true
  has_at b below = is_there cluster (name_at b) (counted_at c b) (shown_at b below)

  named_at : (b : ℕ) → b < count → list_any (bytes_eq (name_at b)) cluster.names ≡ true
  named_at b below = sym (found_any (bytes_eq (name_at b)) cluster.names) ∙ has_at b below

  number_at : (b : ℕ) → b < count → number_in numbers b ≡ number_of cluster.names (name_at b)
  number_at b below = get_or-map (number_of cluster.names) c.names b [] 65535 below

  place_at : (b : ℕ) → b < count → number_in numbers b ≡ prefix_len (λ n. not (bytes_eq (name_at b) n)) cluster.names
  place_at b below = number_at b below ∙ number_place cluster.names (name_at b) (named_at b below)

  -- bookies keep their order
  rising : (a b : ℕ) → a < b → b < count → number_in numbers a < number_in numbers b
  rising a b less below =
      let first : a < count = omega (arith, less, below) in
      omega (
        arith,
        place_at a first,
        place_at b below,
        places-rising (name_at a) (name_at b) (ranked_at c.names (Ranked-in_order c.names census_order) a b [] less below)
            cluster.names (Ranked-in_order cluster.names order) (named_at a first) (named_at b below),
      )

  -- Those that may hold copies

  in_range : (n b : ℕ) → b < n → is_in (range 0 n) b ≡ true
  in_range n b below =
      let itself : (b == b) ≡ true = grind (arith, nat_tests) in
      passes_any (λ x. x == b) 0 (n - 0) b (omega arith) (omega (arith, below)) itself

  below_range : (n b : ℕ) → is_in (range 0 n) b ≡ true → b < n
  below_range n b there =
      let w = any_passes (λ x. x == b) 0 (n - 0) there in
      let here : (w.at == b) ≡ true = w.passes in
      let same : w.at ≡ b = grind (arith, nat_tests, here) in
      omega (arith, same, w.below)

  abbrev own : List ℕ
  own = holders (census_bookies c.bookies)

  abbrev all : List ℕ
  all = holders (census_bookies (bookies_of cluster))

  own_below : AllByRecursion (λ b. b < count) own
  own_below =
      in_below count own (λ b there.
      let within : b < length c.bookies =
      below_range (length c.bookies) b
      (and-first (is_in (range 0 (length c.bookies)) b) (is_holder (census_bookies c.bookies) b)
      (sym (any-filter (is_holder (census_bookies c.bookies)) b (range 0 (length c.bookies))) ∙ there)) in
      omega (arith, within, each))

  -- the bookie that the cluster shows
  found_at : (b : ℕ) → b < count → shown_as cluster (name_at b) ≡ slice_get cluster.shown (number_in numbers b)
  found_at b below =
      by (position (bytes_eq (name_at b)) cluster.names) refl (has_at b below)
      ∙ ap (slice_get cluster.shown) (sym (number_at b below)) where
        by : (o : Option ℕ) → position (bytes_eq (name_at b)) cluster.names ≡ o → is_some o ≡ true
            → option_and_then (slice_get cluster.shown) o ≡ slice_get cluster.shown (unwrap_or o 65535)
        by None is has = cc
        by (Some n) is has = refl

  holder_by : (s : Option Shown) (b : Option Bookie) → (shown : Shown)
      → option_map_or (λ s. is_like s shown) s false ≡ true
      → option_map_or (λ found. found.is_registered) b false ≡ shown.is_registered
      → option_map_or (λ found. found.is_empty) b false ≡ shown.is_empty
      → (option_map_or (λ s. s.is_registered) s false && not (option_map_or (λ s. s.is_empty) s false))
      ≡ (option_map_or (λ found. found.is_registered) b false && not (option_map_or (λ found. found.is_empty) b false))
  holder_by None b shown like registered empty = cc
  holder_by (Some s) b shown like registered empty =
      let first : s.is_registered ≡ shown.is_registered =
      same s.is_registered shown.is_registered (and-first (beq s.is_registered shown.is_registered) _ like) in
      let third : s.is_empty ≡ shown.is_empty =
      same s.is_empty shown.is_empty
      (and-first (beq s.is_empty shown.is_empty) _ (and-second (beq s.is_read_only shown.is_read_only) _ (and-second (beq s.is_registered shown.is_registered) _ like))) in
      λ i. (first ∙ sym registered) i && not ((third ∙ sym empty) i) where
        same : (a b : Bool) → beq a b ≡ true → a ≡ b
        same true true is = refl
        same true false is = cc
        same false true is = cc
        same false false is = refl

  registered_at : (o : Option Shown) → option_map_or (λ (b : Bookie). b.is_registered) (option_map (bookie_of cluster.shown) o) false
      ≡ option_map_or (λ (s : Shown). s.is_registered) o false
  registered_at None = refl
  registered_at (Some s) = refl

  empty_at : (o : Option Shown) → option_map_or (λ (b : Bookie). b.is_empty) (option_map (bookie_of cluster.shown) o) false
      ≡ option_map_or (λ (s : Shown). s.is_empty) o false
  empty_at None = refl
  empty_at (Some s) = refl

  holder_at : (b : ℕ) → b < count
      → is_holder (census_bookies (bookies_of cluster)) (number_in numbers b) ≡ is_holder (census_bookies c.bookies) b
  holder_at b below =
      let at = slice_get cluster.shown (number_in numbers b) in
      let so : option_map_or (λ s. is_like s (counted_at c b)) at false ≡ true =
      sym (ap (λ o. option_map_or (λ s. is_like s (counted_at c b)) o false) (found_at b below)) ∙ shown_at b below in
      (λ i.
      (ap (λ o. option_map_or (λ (b : Bookie). b.is_registered) o false) (slice_get-map (bookie_of cluster.shown) cluster.shown (number_in numbers b))
      ∙ registered_at at) i
      && not ((ap (λ o. option_map_or (λ (b : Bookie). b.is_empty) o false) (slice_get-map (bookie_of cluster.shown) cluster.shown (number_in numbers b))
      ∙ empty_at at) i))
      ∙ holder_by at (slice_get c.bookies b) (counted_at c b) so (registered (slice_get c.bookies b)) (empty (slice_get c.bookies b)) where
        registered : (o : Option Bookie) → option_map_or (λ (found : Bookie). found.is_registered) o false
            ≡ (option_map_or (shown_in c.racks) o (shown_by false false false None)).is_registered
        registered None = refl
        registered (Some b) = refl

        empty : (o : Option Bookie) → option_map_or (λ (found : Bookie). found.is_empty) o false
            ≡ (option_map_or (shown_in c.racks) o (shown_by false false false None)).is_empty
        empty None = refl
        empty (Some b) = refl

  within_at : (b : ℕ) → b < count → number_in numbers b < length cluster.names
  within_at b below =
      let name = name_at b in
      let place = prefix_len (λ n. not (bytes_eq name n)) cluster.names in
      let is : nat_lt place (length cluster.names) ≡ true =
      some (nat_lt place (length cluster.names)) place (has_at b below) in
      let less : place < length cluster.names = grind (arith, nat_tests, is) in
      omega (arith, place_at b below, less) where
        some : (b : Bool) (n : ℕ) → is_some (cond b (Some n) None) ≡ true → b ≡ true
        some true n is = refl
        some false n is = cc

  same_holders : (b : ℕ) → b < count → is_in all (number_in numbers b) ≡ is_in own b
  same_holders b below =
      let long : length (bookies_of cluster) ≡ length cluster.names =
      length-map cluster.shown (bookie_of cluster.shown) ∙ sym matched in
      any-filter (is_holder (census_bookies (bookies_of cluster))) (number_in numbers b) (range 0 (length (bookies_of cluster)))
      ∙ (λ i. (in_range (length (bookies_of cluster)) (number_in numbers b) (omega (arith, long, within_at b below))
      ∙ sym (in_range (length c.bookies) b (omega (arith, below, each)))) i && holder_at b below i)
      ∙ sym (any-filter (is_holder (census_bookies c.bookies)) b (range 0 (length c.bookies)))

  counted_there : (ledgers : List Ledger) → CountedBy c ledgers
      → IsCensus (census_by (entries_in cluster.names c) (tails_in cluster.names c) (ensembles_in cluster.names c) c.census.judged)
      all (map (ledger_numbered numbers) ledgers)
  counted_there ledgers by =
      IsCensus-numbered numbers count rising own all (Rising-names c.bookies) (Rising-names (bookies_of cluster)) own_below same_holders
      c.census ledgers by.well_formed by.on by.counted

-- All of them

module _ (names : List (List ℕ)) (holders : List ℕ) (ledgers : NamedCensus → List Ledger) where
  abbrev made : NamedCensus → List Ledger
  made c = map (ledger_numbered (numbers_in names c)) (ledgers c)

  abbrev IsCounted : Input → Type 0
  IsCounted (Picture l) = Unit {0}
  IsCounted (Census c) =
      IsCensus (census_by (entries_in names c) (tails_in names c) (ensembles_in names c) c.census.judged) holders (made c)

  sum_flat : {A : Type 0} (f : A → ℕ) (g : Ledger → ℕ) (make : NamedCensus → List A)
      → ((c : NamedCensus) → IsCounted (Census c) → sum_by f (make c) ≡ sum_by g (made c))
      → (inputs : List Input) → AllByRecursion IsCounted inputs
      → sum_by f (flat_map (of_census make) inputs) ≡ sum_by g (flat_map (of_census made) inputs)
  sum_flat f g make same [] counted = refl
  sum_flat f g make same (Picture l ∷ inputs) counted =
      ap (sum_by f) (flat_map-cons (of_census make) (Picture l) inputs)
      ∙ sum_flat f g make same inputs counted.1
      ∙ sym (ap (sum_by g) (flat_map-cons (of_census made) (Picture l) inputs))
  sum_flat f g make same (Census c ∷ inputs) counted =
      ap (sum_by f) (flat_map-cons (of_census make) (Census c) inputs)
      ∙ sum_by-append f (make c) (flat_map (of_census make) inputs)
      ∙ (λ i. same c counted.0 i + sum_flat f g make same inputs counted.1 i)
      ∙ sym (ap (sum_by g) (flat_map-cons (of_census made) (Census c) inputs)
      ∙ sum_by-append g (made c) (flat_map (of_census made) inputs))

  judged_flat : (judged : Judged) (inputs : List Input) → AllByRecursion IsCounted inputs
      → (fold with_judged judged inputs).ledgers ≡ judged.ledgers + length (flat_map (of_census made) inputs)
  judged_flat judged [] counted = omega arith
  judged_flat judged (Picture l ∷ inputs) counted =
      judged_flat judged inputs counted.1
      ∙ ap (λ (gs : List Ledger). judged.ledgers + length gs) (sym (flat_map-cons (of_census made) (Picture l) inputs))
  judged_flat judged (Census c ∷ inputs) counted =
      let rest = flat_map (of_census made) inputs in
      let whole : length (flat_map (of_census made) (Census c ∷ inputs)) ≡ length (made c) + length rest =
      ap length (flat_map-cons (of_census made) (Census c) inputs) ∙ length-append (made c) rest in
      omega (arith, judged_flat (judged_sum judged c.census.judged) inputs counted.1, counted.0.judged, whole)

  pub files_counted : (inputs : List Input) → AllByRecursion IsCounted inputs
      → IsCensus (files_of names inputs) holders (flat_map (of_census made) inputs)
  files_counted inputs counted = record {
    entries = λ test.
        sum_flat (λ c. cond (test c.class) c.count 0) (count_ledger holders test) (entries_in names) (λ c by. by.entries test) inputs counted;
    tails = λ test.
        sum_flat (λ t. cond (test t.tail) t.count 0) (λ g. count_by test (tail_of g)) (tails_in names) (λ c by. by.tails test) inputs counted;
    ensembles = λ test.
        sum_flat (λ e. cond (test e.members) e.count 0) (λ g. count_by (λ f. test (in_order f.ensemble)) g.fragments) (ensembles_in names)
        (λ c by. by.ensembles test) inputs counted;
    judged = judged_flat (judged_by 0 0) inputs counted ∙ (let none : 0 + length (flat_map (of_census made) inputs) ≡ length (flat_map (of_census made) inputs) = omega arith in none);
  }

pub counted-all : (inputs : List Input) (strict : Bool) (gathered : Gathered) → Gathers inputs strict gathered
    → (ledgers : NamedCensus → List Ledger) → ((c : NamedCensus) → Contains inputs (Census c) → CountedBy c (ledgers c))
    → IsCensus gathered.census (holders_of inputs) (ledgers_of (reading_of strict) inputs ++ ledgers_counted ledgers inputs)
counted-all inputs strict gathered gathers ledgers by =
    IsCensus-adds gathered.census (files_of (united inputs).names inputs) (holders_of inputs) (ledgers_of (reading_of strict) inputs)
    (ledgers_counted ledgers inputs) (assumed_of strict (holders_of inputs) (united inputs).names inputs) gathers.counts gathers.judged
    (files_counted (united inputs).names (holders_of inputs) ledgers inputs
    (recursion_from_All (IsCounted (united inputs).names (holders_of inputs) ledgers) inputs each)) where
      one : (input : Input) → Contains inputs input → AreAlike (united inputs) input
          → IsCounted (united inputs).names (holders_of inputs) ledgers input
      one (Picture l) among alike = tt
      one (Census c) among alike =
          let counted = by c among in
          counted_there (united inputs) gathers.names (Matched-united inputs) c counted.form.bookies.order counted.form.bookies.each alike
          (ledgers c) counted

      each : All (IsCounted (united inputs).names (holders_of inputs) ledgers) inputs
      each = λ k d within. one (get_or inputs k d) (contains k d within) (gathers.agree k d within) where
        contains : (k : ℕ) (d : Input) → k < length inputs → Contains inputs (get_or inputs k d)
        contains k d within = (k, within, get_or_default inputs k (get_or inputs k d) d within)
