-- The same ledgers, where their bookies have other numbers: what is counted of them is the same, by these numbers.
use Rattle.std.proofs.Common.{◌≡◌, ◌∙◌, ◌+◌, ◌<◌, ◌≤◌, ◌&&◌, ◌||◌, cond, ℕ, Bool, true, false, List, [], ◌∷◌, length, map, refl, ap, sym, subst, arith, inl, inr}
use Rattle.std.specs.Prelude.{⊤, ◌==◌, All, count_by, sum_by, slice_index}
use Rattle.std.specs.List.{AllByRecursion, filter}
use Rattle.std.proofs.lemmas.Bool.{cases_lt}
use Rattle.std.proofs.lemmas.Bool.Decides.{nat_tests}
use Rattle.std.proofs.lemmas.List.{get_or-map, length-map}
use Rattle.std.proofs.lemmas.List.Sums.{sum_by-cons}
use Rattle.std.proofs.lemmas.Nat.{mod_below}
use Rattle.std.proofs.lemmas.List.Folds.{fold-map}
use Rattle.std.proofs.lemmas.List.Elements.{recursion_from_All}
use Rattle.reh_census.specs.declared.classes.Class.{Class}
use Rattle.reh_census.specs.Copies.{Above, Rising, in_order, is_in}
use Rattle.reh_census.proofs.InOrderLaws.{Rising-in_order, is_in-in_order}
use Rattle.reh_census.proofs.RuleLaws.{any-filter}
use Rattle.reh_census.proofs.TailLaws.{and-first, and-second}
use Rattle.reh_census.proofs.SortedLaws.{Rising-filter, Rising-one}
use Rattle.reh_census.specs.declared.censuses.Tail.{Tail}
use Rattle.reh_census.specs.declared.ledgers.Content.{Content}
use Rattle.reh_census.specs.declared.ledgers.Fragment.{Fragment}
use Rattle.reh_census.specs.declared.ledgers.LedgerState.{LedgerState}
use Rattle.reh_census.specs.declared.ledgers.LedgerState.TheVariants.{Open, InRecovery, Closed}
use Rattle.reh_census.specs.declared.ledgers.Told.{Told}
use Rattle.reh_census.specs.Counting.{Census, IsCensus, census_by, count_fragment, count_ledger, tail_in, tail_of, tail_with}
use Rattle.reh_census.specs.Ledgers.{IsFragment, IsLedger, Ledger, carries, class_of, is_held, is_untold, told_in, told_of, writes}
use Rattle.reh_census.specs.Striping.{index_at, range}
use Rattle.reh_model.proofs.Ranges.{same_answer}
use Rattle.reh_inputs.specs.Ledgers.{number_in}
use Rattle.reh_inputs.specs.Renumbered.{class_by, counted_by, counted_ensemble_by, counted_tail_by, renumbered, tail_by}
use Rattle.reh_copies.specs.Numbered.{IsOn, content_numbered, fragment_numbered, ledger_numbered}

itself : (x : ℕ) → (x == x) ≡ true
itself x = grind (arith, nat_tests)

equal : (x y : ℕ) → (x == y) ≡ true → x ≡ y
equal x y is = grind (arith, nat_tests)

-- a bookie of a list
record Among (xs : List ℕ) (f : ℕ → ℕ) (c : ℕ) : Type 0 where
  pub bookie : ℕ
  pub among : is_in xs bookie ≡ true
  pub is : f bookie ≡ c

first_in : (x : ℕ) (xs : List ℕ) → is_in (x ∷ xs) x ≡ true
first_in x xs = ap (λ b. b || is_in xs x) (itself x)

next_in : (x b : ℕ) (xs : List ℕ) → is_in xs b ≡ true → is_in (x ∷ xs) b ≡ true
next_in x b xs there = either (x == b) (is_in xs b) there where
  either : (p q : Bool) → q ≡ true → (p || q) ≡ true
  either true q is = refl
  either false q is = is

mapped_in : (f : ℕ → ℕ) (xs : List ℕ) (b : ℕ) → is_in xs b ≡ true → is_in (map f xs) (f b) ≡ true
mapped_in f [] b there = cc
mapped_in f (x ∷ xs) b there =
    elim (x == b) as (λ p. (x == b) ≡ p → (p || is_in xs b) ≡ true → is_in (map f (x ∷ xs)) (f b) ≡ true) [
      | true ↦ λ here _. ap (λ y. is_in (map f (x ∷ xs)) (f y)) (sym (equal x b here)) ∙ first_in (f x) (map f xs)
      | false ↦ λ _ later. next_in (f x) (f b) (map f xs) (mapped_in f xs b later)
    ] refl there

in_mapped : (f : ℕ → ℕ) (xs : List ℕ) (c : ℕ) → is_in (map f xs) c ≡ true → Among xs f c
in_mapped f [] c there = cc
in_mapped f (x ∷ xs) c there =
    elim (f x == c) as (λ p. (f x == c) ≡ p → (p || is_in (map f xs) c) ≡ true → Among (x ∷ xs) f c) [
      | true ↦ λ here _. record { bookie = x; among = first_in x xs; is = equal (f x) c here }
      | false ↦ λ _ later.
          let w = in_mapped f xs c later in
          record { bookie = w.bookie; among = next_in x w.bookie xs w.among; is = w.is }
    ] refl there

below_in : (count : ℕ) (xs : List ℕ) → AllByRecursion (λ b. b < count) xs → (b : ℕ) → is_in xs b ≡ true → b < count
below_in count [] below b there = cc
below_in count (x ∷ xs) below b there =
    elim (x == b) as (λ p. (x == b) ≡ p → (p || is_in xs b) ≡ true → b < count) [
      | true ↦ λ here _. subst (λ (y : ℕ). y < count) (equal x b here) below.0
      | false ↦ λ _ later. below_in count xs below.1 b later
    ] refl there

pub in_below : (count : ℕ) (xs : List ℕ) → ((b : ℕ) → is_in xs b ≡ true → b < count) → AllByRecursion (λ b. b < count) xs
in_below count [] below = tt
in_below count (x ∷ xs) below =
    (below x (first_in x xs), in_below count xs (λ b there. below b (next_in x b xs there)))

sum-mapped : {X Y : Type 0} (f : Y → ℕ) (h : X → Y) (xs : List X) → sum_by f (map h xs) ≡ sum_by (λ x. f (h x)) xs
sum-mapped f h xs = fold-map (λ a x. a + f x) h 0 xs

sum-alike_by : {X : Type 0} (f g : X → ℕ) (P : X → Type 0) → ((x : X) → P x → f x ≡ g x) → (xs : List X)
    → AllByRecursion P xs → sum_by f xs ≡ sum_by g xs
sum-alike_by f g P same [] each = refl
sum-alike_by f g P same (x ∷ xs) each =
    sum_by-cons f x xs ∙ (λ i. same x each.0 i + sum-alike_by f g P same xs each.1 i) ∙ sym (sum_by-cons g x xs)

sum-alike : {X : Type 0} (f g : X → ℕ) (P : X → Type 0) → ((x : X) → P x → f x ≡ g x) → (xs : List X)
    → All P xs → sum_by f xs ≡ sum_by g xs
sum-alike f g P same xs each = sum-alike_by f g P same xs (recursion_from_All P xs each)

module _ (numbers : List ℕ) (count : ℕ)
    (rising : (a b : ℕ) → a < b → b < count → number_in numbers a < number_in numbers b) where
  abbrev ρ : ℕ → ℕ
  ρ = number_in numbers

  -- a number is that of one bookie alone
  same_bookie : (m b : ℕ) → m < count → b < count → (ρ m == ρ b) ≡ (m == b)
  same_bookie m b within below =
      elim (cases_lt m b) [
        | inl less ↦
            let lower : ρ m < ρ b = rising m b less below in
            let apart : (ρ m == ρ b) ≡ false = grind (arith, nat_tests, lower) in
            let other : (m == b) ≡ false = grind (arith, nat_tests, less) in
            apart ∙ sym other
        | inr ge ↦ elim (cases_lt b m) [
          | inl less ↦
              let lower : ρ b < ρ m = rising b m less within in
              let apart : (ρ m == ρ b) ≡ false = grind (arith, nat_tests, lower) in
              let other : (m == b) ≡ false = grind (arith, nat_tests, less) in
              apart ∙ sym other
          | inr le ↦
              let is : m ≡ b = omega (arith, ge, le) in
              let one : (m == b) ≡ true = grind (arith, nat_tests, is) in
              ap (λ k. ρ k == ρ b) is ∙ itself (ρ b) ∙ sym one
        ]
      ]

  any_same : (b : ℕ) → b < count → (xs : List ℕ) → AllByRecursion (λ b. b < count) xs → is_in (map ρ xs) (ρ b) ≡ is_in xs b
  any_same b below [] within = refl
  any_same b below (x ∷ xs) within = λ i. same_bookie x b within.0 below i || any_same b below xs within.1 i

  Above-mapped : (x : ℕ) (xs : List ℕ) → Above x xs → AllByRecursion (λ b. b < count) xs → Above (ρ x) (map ρ xs)
  Above-mapped x [] above below = tt
  Above-mapped x (y ∷ ys) above below =
      (rising x y above.0 below.0, Above-mapped x ys above.1 below.1)

  Rising-mapped : (xs : List ℕ) → Rising xs → AllByRecursion (λ b. b < count) xs → Rising (map ρ xs)
  Rising-mapped [] rising below = tt
  Rising-mapped (x ∷ xs) rising below =
      (Above-mapped x xs rising.0 below.1, Rising-mapped xs rising.1 below.1)

  mapped_alike : (xs ys : List ℕ) → ((b : ℕ) → is_in xs b ≡ is_in ys b) → (c : ℕ)
      → is_in (map ρ xs) c ≡ true → is_in (map ρ ys) c ≡ true
  mapped_alike xs ys alike c there =
      let w = in_mapped ρ xs c there in
      subst (λ (k : ℕ). is_in (map ρ ys) k ≡ true) w.is (mapped_in ρ ys w.bookie (sym (alike w.bookie) ∙ w.among))

  -- bookies in order stay in order
  pub in_order-numbered : (xs : List ℕ) → AllByRecursion (λ b. b < count) xs
      → in_order (map ρ xs) ≡ map ρ (in_order xs)
  in_order-numbered xs below =
      let ordered_below : AllByRecursion (λ b. b < count) (in_order xs) =
      in_below count (in_order xs) (λ b there. below_in count xs below b (sym (is_in-in_order xs b) ∙ there)) in
      Rising-one (in_order (map ρ xs)) (map ρ (in_order xs)) (Rising-in_order (map ρ xs))
      (Rising-mapped (in_order xs) (Rising-in_order xs) ordered_below)
      (λ c. is_in-in_order (map ρ xs) c
      ∙ same_answer (is_in (map ρ xs) c) (is_in (map ρ (in_order xs)) c)
      (mapped_alike xs (in_order xs) (λ b. sym (is_in-in_order xs b)) c)
      (mapped_alike (in_order xs) xs (is_in-in_order xs) c))

  -- those that may hold copies, by their numbers
  module _ (holders others : List ℕ) (one : Rising holders) (other : Rising others)
      (below : AllByRecursion (λ b. b < count) holders) (alike : (b : ℕ) → b < count → is_in others (ρ b) ≡ is_in holders b) where
    both : (a b c d : Bool) → a ≡ c → b ≡ d → (a && b) ≡ true → (c && d) ≡ true
    both a b c d first second is = (λ i. sym first i && sym second i) ∙ is

    -- a test that only bookies of the list pass picks the same ones
    pub filter-numbered : (p q : ℕ → Bool) → ((b : ℕ) → b < count → q (ρ b) ≡ p b)
        → ((c : ℕ) → q c ≡ true → (b : ℕ) × (b < count) × (ρ b ≡ c))
        → filter q others ≡ map ρ (filter p holders)
    filter-numbered p q by only =
        let picked_below : AllByRecursion (λ b. b < count) (filter p holders) =
        in_below count (filter p holders)
        (λ b there. below_in count holders below b (and-first (is_in holders b) (p b) (sym (any-filter p b holders) ∙ there))) in
        Rising-one (filter q others) (map ρ (filter p holders)) (Rising-filter q others other)
        (Rising-mapped (filter p holders) (Rising-filter p holders one) picked_below)
        (λ c. same_answer (is_in (filter q others) c) (is_in (map ρ (filter p holders)) c)
        (λ there.
        let is : (is_in others c && q c) ≡ true = sym (any-filter q c others) ∙ there in
        let w = only c (and-second (is_in others c) (q c) is) in
        let here : (is_in others (ρ w.0) && q (ρ w.0)) ≡ true = ap (λ k. is_in others k && q k) w.2 ∙ is in
        let picked : is_in (filter p holders) w.0 ≡ true =
        any-filter p w.0 holders
        ∙ both (is_in others (ρ w.0)) (q (ρ w.0)) (is_in holders w.0) (p w.0) (alike w.0 w.1) (by w.0 w.1) here in
        subst (λ (k : ℕ). is_in (map ρ (filter p holders)) k ≡ true) w.2 (mapped_in ρ (filter p holders) w.0 picked))
        (λ there.
        let w = in_mapped ρ (filter p holders) c there in
        let within : w.bookie < count = below_in count (filter p holders) picked_below w.bookie w.among in
        let is : (is_in holders w.bookie && p w.bookie) ≡ true = sym (any-filter p w.bookie holders) ∙ w.among in
        subst (λ (k : ℕ). is_in (filter q others) k ≡ true) w.is
        (any-filter q (ρ w.bookie) others
        ∙ both (is_in holders w.bookie) (p w.bookie) (is_in others (ρ w.bookie)) (q (ρ w.bookie))
        (sym (alike w.bookie within)) (sym (by w.bookie within)) is)))

    -- Entries

    -- the indexes of a write set are within the ensemble
    index_within : (size entry rank : ℕ) → 1 ≤ size → index_at entry size rank < size
    index_within size entry rank some = mod_below (entry + rank) size (omega (arith, some))

    writes_numbered : (ensemble : List ℕ) (size entry : ℕ) → 1 ≤ size → length ensemble ≡ size → (ranks : List ℕ)
        → map (λ i. slice_index (map ρ ensemble) i) (map (index_at entry size) ranks)
        ≡ map ρ (map (λ i. slice_index ensemble i) (map (index_at entry size) ranks))
    writes_numbered ensemble size entry some whole [] = refl
    writes_numbered ensemble size entry some whole (rank ∷ ranks) =
        let within : index_at entry size rank < length ensemble = omega (arith, whole, index_within size entry rank some) in
        λ i. get_or-map ρ ensemble (index_at entry size rank) 0 0 within i
        ∷ writes_numbered ensemble size entry some whole ranks i

    writes_below : (ensemble : List ℕ) (size entry : ℕ) → 1 ≤ size → length ensemble ≡ size → All (λ b. b < count) ensemble
        → (ranks : List ℕ)
        → AllByRecursion (λ b. b < count) (map (λ i. slice_index ensemble i) (map (index_at entry size) ranks))
    writes_below ensemble size entry some whole below_all [] = tt
    writes_below ensemble size entry some whole below_all (rank ∷ ranks) =
        let within : index_at entry size rank < length ensemble = omega (arith, whole, index_within size entry rank some) in
        (below_all (index_at entry size rank) 0 within, writes_below ensemble size entry some whole below_all ranks)

    told_numbered : (contents : List Content) (rest : Told) → AllByRecursion (λ content. content.bookie < count) contents
        → (b : ℕ) → b < count → told_in (map (content_numbered numbers) contents) rest (ρ b) ≡ told_in contents rest b
    told_numbered [] rest on b within = refl
    told_numbered (content ∷ contents) rest on b within =
        λ i. cond (same_bookie content.bookie b on.0 within i) content.told (told_numbered contents rest on.1 b within i)

    module _ (g : Ledger) (fragment : Fragment) (whole : IsFragment g.size fragment)
        (on : All (λ b. b < count) fragment.ensemble) (told_on : All (λ content. content.bookie < count) g.contents) where
      abbrev moved : Ledger
      moved = ledger_numbered numbers g

      carries_numbered : (entry c : ℕ)
          → carries moved (fragment_numbered numbers fragment) entry c ≡ is_in (map ρ (writes g fragment entry)) c
      carries_numbered entry c =
          ap (λ (ws : List ℕ). is_in ws c)
          (writes_numbered fragment.ensemble g.size entry whole.some whole.whole (range 0 g.write_quorum))

      -- what is told of carriers picks the same ones
      picked : (entry : ℕ) (test : Told → Bool)
          → filter (λ c. carries moved (fragment_numbered numbers fragment) entry c && test (told_of moved c)) others
          ≡ map ρ (filter (λ b. carries g fragment entry b && test (told_of g b)) holders)
      picked entry test =
          let ws_below : AllByRecursion (λ b. b < count) (writes g fragment entry) =
          writes_below fragment.ensemble g.size entry whole.some whole.whole on (range 0 g.write_quorum) in
          filter-numbered (λ b. carries g fragment entry b && test (told_of g b))
          (λ c. carries moved (fragment_numbered numbers fragment) entry c && test (told_of moved c))
          (λ b within. λ i.
          (carries_numbered entry (ρ b) ∙ any_same b within (writes g fragment entry) ws_below) i
          && test (told_numbered g.contents g.rest (recursion_from_All (λ content. content.bookie < count) g.contents told_on) b within i))
          (λ c is.
          let carried : carries moved (fragment_numbered numbers fragment) entry c ≡ true =
          and-first (carries moved (fragment_numbered numbers fragment) entry c) (test (told_of moved c)) is in
          let w = in_mapped ρ (writes g fragment entry) c (sym (carries_numbered entry c) ∙ carried) in
          (w.bookie, below_in count (writes g fragment entry) ws_below w.bookie w.among, w.is))

      class_numbered : (entry : ℕ)
          → class_of others moved (fragment_numbered numbers fragment) entry ≡ class_by numbers (class_of holders g fragment entry)
      class_numbered entry = λ i. record {
        known = picked entry (is_held entry) i;
        untold = picked entry is_untold i;
        ack_quorum = g.ack_quorum;
        write_quorum = g.write_quorum;
      }

      count_numbered : (test : Class → Bool)
          → count_fragment others moved test (fragment_numbered numbers fragment)
          ≡ count_fragment holders g (λ class. test (class_by numbers class)) fragment
      count_numbered test =
          λ i. count_by (λ entry. test (class_numbered entry i)) (range fragment.first fragment.stop)

    entries_numbered : (test : Class → Bool) (ledgers : List Ledger) → All (λ g. IsLedger g × IsOn count g) ledgers
        → sum_by (count_ledger others test) (map (ledger_numbered numbers) ledgers)
        ≡ sum_by (count_ledger holders (λ class. test (class_by numbers class))) ledgers
    entries_numbered test ledgers good =
        sum-mapped (count_ledger others test) (ledger_numbered numbers) ledgers
        ∙ sum-alike (λ g. count_ledger others test (ledger_numbered numbers g))
        (count_ledger holders (λ class. test (class_by numbers class))) (λ g. IsLedger g × IsOn count g)
        (λ g fine.
        sum-mapped (count_fragment others (ledger_numbered numbers g) test) (fragment_numbered numbers) g.fragments
        ∙ sum-alike (λ fragment. count_fragment others (ledger_numbered numbers g) test (fragment_numbered numbers fragment))
        (count_fragment holders g (λ class. test (class_by numbers class)))
        (λ fragment. IsFragment g.size fragment × All (λ b. b < count) fragment.ensemble)
        (λ fragment fit. count_numbered g fragment fit.0 fit.1 fine.1.told test) g.fragments
        (λ k d within. (fine.0.fragments k d within, fine.1.members k d within))) ledgers good

    -- Tails

    tail_numbered : (g : Ledger) (is_open : Bool) (fragments : List Fragment)
        → tail_with (ledger_numbered numbers g) is_open (map (fragment_numbered numbers) fragments)
        ≡ map (tail_by numbers) (tail_with g is_open fragments)
    tail_numbered g is_open [] = refl
    tail_numbered g is_open (fragment ∷ []) = refl
    tail_numbered g is_open (fragment ∷ next ∷ fragments) = tail_numbered g is_open (next ∷ fragments)

    tail_in_numbered : (g : Ledger) (state : LedgerState)
        → tail_in (ledger_numbered numbers g) state ≡ map (tail_by numbers) (tail_in g state)
    tail_in_numbered g Open = tail_numbered g true g.fragments
    tail_in_numbered g InRecovery = tail_numbered g false g.fragments
    tail_in_numbered g Closed = refl

    tails_numbered : (test : Tail → Bool) (ledgers : List Ledger)
        → sum_by (λ g. count_by test (tail_of g)) (map (ledger_numbered numbers) ledgers)
        ≡ sum_by (λ g. count_by (λ tail. test (tail_by numbers tail)) (tail_of g)) ledgers
    tails_numbered test ledgers =
        sum-mapped (λ g. count_by test (tail_of g)) (ledger_numbered numbers) ledgers
        ∙ sum-alike (λ g. count_by test (tail_of (ledger_numbered numbers g)))
        (λ g. count_by (λ tail. test (tail_by numbers tail)) (tail_of g)) (λ _. ⊤)
        (λ g _. ap (count_by test) (tail_in_numbered g g.state) ∙ sum-mapped (λ tail. cond (test tail) 1 0) (tail_by numbers) (tail_of g))
        ledgers (λ k d within. tt)

    -- Ensembles

    ensembles_numbered : (test : List ℕ → Bool) (ledgers : List Ledger) → All (IsOn count) ledgers
        → sum_by (λ g. count_by (λ fragment. test (in_order fragment.ensemble)) g.fragments) (map (ledger_numbered numbers) ledgers)
        ≡ sum_by (λ g. count_by (λ fragment. test (renumbered numbers (in_order fragment.ensemble))) g.fragments) ledgers
    ensembles_numbered test ledgers on =
        sum-mapped (λ g. count_by (λ fragment. test (in_order fragment.ensemble)) g.fragments) (ledger_numbered numbers) ledgers
        ∙ sum-alike (λ g. count_by (λ fragment. test (in_order fragment.ensemble)) (map (fragment_numbered numbers) g.fragments))
        (λ g. count_by (λ fragment. test (renumbered numbers (in_order fragment.ensemble))) g.fragments) (IsOn count)
        (λ g fine.
        sum-mapped (λ fragment. cond (test (in_order fragment.ensemble)) 1 0) (fragment_numbered numbers) g.fragments
        ∙ sum-alike (λ fragment. cond (test (in_order (map ρ fragment.ensemble))) 1 0)
        (λ fragment. cond (test (renumbered numbers (in_order fragment.ensemble))) 1 0)
        (λ fragment. All (λ b. b < count) fragment.ensemble)
        (λ fragment members.
        ap (λ (xs : List ℕ). cond (test xs) 1 0)
        (in_order-numbered fragment.ensemble (recursion_from_All (λ b. b < count) fragment.ensemble members))) g.fragments fine.members)
        ledgers on

    -- The census

    -- what is counted of the ledgers is, by these numbers, what is counted of the same ledgers by these numbers
    pub IsCensus-numbered : (census : Census) (ledgers : List Ledger)
        → All IsLedger ledgers → All (IsOn count) ledgers → IsCensus census holders ledgers
        → IsCensus
        (census_by (map (counted_by numbers) census.entries) (map (counted_tail_by numbers) census.tails)
        (map (counted_ensemble_by numbers) census.ensembles) census.judged) others
        (map (ledger_numbered numbers) ledgers)
    IsCensus-numbered census ledgers whole on counts = record {
      entries = λ test.
          sum-mapped (λ c. cond (test c.class) c.count 0) (counted_by numbers) census.entries
          ∙ counts.entries (λ class. test (class_by numbers class))
          ∙ sym (entries_numbered test ledgers (λ k d within. (whole k d within, on k d within)));
      tails = λ test.
          sum-mapped (λ t. cond (test t.tail) t.count 0) (counted_tail_by numbers) census.tails
          ∙ counts.tails (λ tail. test (tail_by numbers tail))
          ∙ sym (tails_numbered test ledgers);
      ensembles = λ test.
          sum-mapped (λ e. cond (test e.members) e.count 0) (counted_ensemble_by numbers) census.ensembles
          ∙ counts.ensembles (λ members. test (renumbered numbers members))
          ∙ sym (ensembles_numbered test ledgers on);
      judged = counts.judged ∙ sym (length-map ledgers (ledger_numbered numbers));
    }
