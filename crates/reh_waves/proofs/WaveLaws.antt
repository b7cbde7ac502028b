-- A bookie more in rounds.
use Rattle.std.proofs.Common.{◌≡◌, ◌≢◌, ◌∙◌, ◌<◌, ◌≤◌, ◌+◌, ◌-◌, ◌⊎◌, ◌&&◌, ◌||◌, cond, ℕ, Bool, true, false, All, List, [], ◌∷◌, ◌++◌, Option, Some, None}
use Rattle.std.proofs.Common.{length, length-append, append-nil, get_or, set, take, refl, ap, sym, subst, inl, inr, arith, true≢false}
use Rattle.std.specs.Prelude.{AllPairs, count_by, filter, position, sum_by, ◌==◌}
use Rattle.std.specs.List.{list_any}
use Rattle.std.proofs.lemmas.Bool.Decides.{nat_tests}
use Rattle.std.proofs.lemmas.List.{get_or-set_other, get_or-set_same, length-set}
use Rattle.std.proofs.lemmas.List.Elements.{All-push, All-set, filter_more}
use Rattle.std.proofs.lemmas.List.Folds.{list_any-append, list_any_at}
use Rattle.std.proofs.lemmas.List.Quantifiers.{all_pairs_push}
use Rattle.std.proofs.lemmas.List.Sorted.{sum_by-IsPermutation}
use Rattle.std.proofs.lemmas.List.Sums.{sum_by-set, sum_by_more, sum_by_push}
use Rattle.std.specs.List.Sorted.{IsPermutation}
use Rattle.reh_census.specs.Bookies.{Bookies, bookies_of}
use Rattle.reh_census.specs.Copies.{IsPart, is_in}
use Rattle.reh_census.specs.Striping.{range}
use Rattle.reh_census.specs.declared.answers.Answer.{Answer}
use Rattle.reh_census.specs.declared.bookies.Bookie.{Bookie}
use Rattle.reh_census.proofs.RangeLaws.{sum-none, sum-one}
use Rattle.reh_waves.specs.declared.waves.Alone.{Alone}
use Rattle.reh_waves.specs.declared.waves.Round.{Round}
use Rattle.reh_waves.specs.declared.waves.Waves.{Waves}
use Rattle.reh_waves.proofs.SetLaws.{registered-within}
use Rattle.reh_waves.specs.Waves.{AreApart, ArePlaced, AreWaves, IsAlone, IsBegun, IsJoined, IsNamed, IsPlaced, IsPlacedBy, IsRound, NoTwo, PlacesEach, goes, joins, may_join, rack_for}

-- Members

pub in_pushed : (xs : List ℕ) (b x : ℕ) → is_in (xs ++ b ∷ []) x ≡ is_in (b ∷ xs) x
in_pushed xs b x =
    list_any-append (λ name. name == x) xs (b ∷ []) ∙ turned (list_any (λ name. name == x) xs) (b == x) where
      turned : (here new : Bool) → (here || (new || false)) ≡ (new || here)
      turned true true = refl
      turned true false = refl
      turned false true = refl
      turned false false = refl

either : (new here : Bool) → (new || here) ≡ true → (new ≡ true) ⊎ (here ≡ true)
either true here is = inl refl
either false here is = inr is

equal : (x b : ℕ) → (x == b) ≡ true → x ≡ b
equal x b same = grind (arith, nat_tests)

wider : (new here more : Bool) → (here ≡ true → more ≡ true) → (new || here) ≡ true → (new || more) ≡ true
wider true here more implies is = refl
wider false here more implies is = implies is

later : (new here : Bool) → here ≡ true → (new || here) ≡ true
later true here is = refl
later false here is = is

-- where a part of what goes goes
abbrev pub IsMonotone : ((ℕ → Bool) → Answer) → Type 0
IsMonotone answer = (part whole : ℕ → Bool) → IsPart part whole → goes answer whole ≡ true → goes answer part ≡ true

-- A bookie that doesn't fit

not_fitting : (may go : Bool) → (may && go) ≡ false → may ≡ true → go ≡ false
not_fitting true go is may = is
not_fitting false go is may = absurd (true≢false (sym may))

fitting-may : (may go : Bool) → (may && go) ≡ true → may ≡ true
fitting-may true go is = refl
fitting-may false go is = is

fitting-goes : (may go : Bool) → (may && go) ≡ true → go ≡ true
fitting-goes true go is = is
fitting-goes false go is = absurd (true≢false (sym is))

no_longer : (b c : Bool) → (c ≡ true → b ≡ true) → b ≡ false → c ≡ false
no_longer b true implies fails = absurd (true≢false (sym (implies refl) ∙ fails))
no_longer b false implies fails = refl

-- racks

same_rack : (r o : ℕ) → (r == o) ≡ true → ◌≡◌ {A = Option ℕ} (Some r) (Some o)
same_rack r o same = ap (λ (n : ℕ). Some n) (equal r o same)

pub join-rack : (by_rack : Bool) (x y : Option ℕ) → may_join by_rack (rack_for by_rack x) (rack_for by_rack y) ≡ true
    → rack_for by_rack x ≡ rack_for by_rack y
join-rack false x y joins = refl
join-rack true None y joins = absurd (true≢false (sym joins))
join-rack true (Some r) None joins = absurd (true≢false (sym joins))
join-rack true (Some r) (Some o) joins = same_rack r o joins

pub join-known : (by_rack : Bool) (x y : Option ℕ) → by_rack ≡ true → y ≡ None → may_join by_rack x y ≡ true → ⊥
join-known false x y keeps none joins = true≢false (sym keeps)
join-known true None y keeps none joins = true≢false (sym joins)
join-known true (Some r) None keeps none joins = true≢false (sym joins)
join-known true (Some r) (Some o) keeps none joins = cc

single : (P : ℕ → Type 0) (b : ℕ) → P b → All P (b ∷ [])
single P b is = All-push P [] b (λ k d below. absurd (omega (arith, below))) is

sole : (b : Bool) → (b || false) ≡ true → b ≡ true
sole true is = refl
sole false is = is

joined-rack : (answer : (ℕ → Bool) → Answer) (bookies : Bookies) (by_rack : Bool) (old : Round) (b : ℕ)
    → IsRound answer bookies by_rack old
    → joins answer by_rack (rack_for by_rack (bookies.rack_of b)) b old ≡ true
    → old.rack ≡ rack_for by_rack (bookies.rack_of b)
joined-rack answer bookies by_rack old b was fits =
    let may : may_join by_rack (rack_for by_rack (bookies.rack_of b)) old.rack ≡ true =
    fitting-may (may_join by_rack (rack_for by_rack (bookies.rack_of b)) old.rack) (goes answer (is_in (b ∷ old.bookies.items))) fits in
    let first : rack_for by_rack (bookies.rack_of (get_or old.bookies.items 0 0)) ≡ old.rack = was.rack 0 0 (omega (arith, was.some)) in
    sym
    (join-rack by_rack (bookies.rack_of b) (bookies.rack_of (get_or old.bookies.items 0 0))
    (subst (λ (r : Option ℕ). may_join by_rack (rack_for by_rack (bookies.rack_of b)) r ≡ true) (sym first) may) ∙ first)

itself : (x y : ℕ) → x ≡ y → (x == y) ≡ true
itself x y same = grind (arith, nat_tests)

same_by : (i n : ℕ) (b : Bool) → (i == n) ≡ b → (i ≡ n) ⊎ (i ≢ n)
same_by i n true is = inl (equal i n is)
same_by i n false is = inr (λ same. true≢false (sym (itself i n same) ∙ is))

same_or : (i n : ℕ) → (i ≡ n) ⊎ (i ≢ n)
same_or i n = same_by i n (i == n) refl

set-at : (rounds : List Round) (number k : ℕ) (new d : Round) → k ≡ number → number < length rounds → get_or (set rounds number new) k d ≡ new
set-at rounds number k new d here below =
    ap (λ (m : ℕ). get_or (set rounds number new) m d) here ∙ get_or-set_same rounds number new d below

-- The round that has one bookie more

grown : (answer : (ℕ → Bool) → Answer) (bookies : Bookies) (by_rack : Bool) (old new : Round) (b : ℕ)
    → IsRound answer bookies by_rack old
    → new.rack ≡ old.rack → new.bookies.items ≡ old.bookies.items ++ b ∷ []
    → bookies.is_registered b ≡ true
    → joins answer by_rack (rack_for by_rack (bookies.rack_of b)) b old ≡ true
    → IsRound answer bookies by_rack new
grown answer bookies by_rack old new b was rack items registered fits =
    let may : may_join by_rack (rack_for by_rack (bookies.rack_of b)) old.rack ≡ true =
    fitting-may (may_join by_rack (rack_for by_rack (bookies.rack_of b)) old.rack) (goes answer (is_in (b ∷ old.bookies.items))) fits in
    let all : goes answer (is_in (b ∷ old.bookies.items)) ≡ true =
    fitting-goes (may_join by_rack (rack_for by_rack (bookies.rack_of b)) old.rack) (goes answer (is_in (b ∷ old.bookies.items))) fits in
    let same : rack_for by_rack (bookies.rack_of b) ≡ old.rack = sym (joined-rack answer bookies by_rack old b was fits) in
    record {
      yes =
          ap (λ (xs : List ℕ). goes answer (is_in xs)) items
          ∙ ap (λ (s : ℕ → Bool). goes answer s) (λ i x. in_pushed old.bookies.items b x i) ∙ all;
      some = omega (arith, ap (λ (xs : List ℕ). length xs) items, length-append old.bookies.items (b ∷ []), was.some);
      registered =
          subst (λ (xs : List ℕ). All (λ x. bookies.is_registered x ≡ true) xs) (sym items)
          (All-push (λ x. bookies.is_registered x ≡ true) old.bookies.items b was.registered registered);
      rack =
          subst (λ (r : Option ℕ). All (λ x. rack_for by_rack (bookies.rack_of x) ≡ r) new.bookies.items) (sym rack)
          (subst (λ (xs : List ℕ). All (λ x. rack_for by_rack (bookies.rack_of x) ≡ old.rack) xs) (sym items)
          (All-push (λ x. rack_for by_rack (bookies.rack_of x) ≡ old.rack) old.bookies.items b was.rack same));
      unknown = λ keeps none.
          absurd (join-known by_rack (rack_for by_rack (bookies.rack_of b)) old.rack keeps (sym rack ∙ none) may);
    }

-- an earlier round that has one bookie more
apart-earlier : (answer : (ℕ → Bool) → Answer) (by_rack : Bool) (old new after : Round) (b : ℕ) → IsMonotone answer
    → new.rack ≡ old.rack → new.bookies.items ≡ old.bookies.items ++ b ∷ []
    → AreApart answer by_rack old after → AreApart answer by_rack new after
apart-earlier answer by_rack old new after b monotone rack items were may x among =
    no_longer (goes answer (is_in (x ∷ old.bookies.items))) (goes answer (is_in (x ∷ new.bookies.items)))
    (monotone (is_in (x ∷ old.bookies.items)) (is_in (x ∷ new.bookies.items))
    (λ y inside. wider (x == y) (is_in old.bookies.items y) (is_in new.bookies.items y)
    (λ here. ap (λ (xs : List ℕ). is_in xs y) items ∙ in_pushed old.bookies.items b y ∙ later (b == y) (is_in old.bookies.items y) here) inside))
    (were (subst (λ (r : Option ℕ). may_join by_rack after.rack r ≡ true) rack may) x among)

-- a later one
apart-later : (answer : (ℕ → Bool) → Answer) (by_rack : Bool) (before old new : Round) (b : ℕ)
    → new.rack ≡ old.rack → new.bookies.items ≡ old.bookies.items ++ b ∷ []
    → (may_join by_rack old.rack before.rack ≡ true → goes answer (is_in (b ∷ before.bookies.items)) ≡ false)
    → AreApart answer by_rack before old → AreApart answer by_rack before new
apart-later answer by_rack before old new b rack items fails were may x among =
    let still : may_join by_rack old.rack before.rack ≡ true =
    subst (λ (r : Option ℕ). may_join by_rack r before.rack ≡ true) rack may in
    elim (either (b == x) (is_in old.bookies.items x)
    (sym (in_pushed old.bookies.items b x) ∙ sym (ap (λ (xs : List ℕ). is_in xs x) items) ∙ among)) [
      | inl new ↦ subst (λ (y : ℕ). goes answer (is_in (y ∷ before.bookies.items)) ≡ false) (equal b x new) (fails still)
      | inr here ↦ were still x here
    ]

-- Rounds

pub joined-rounds : (answer : (ℕ → Bool) → Answer) (bookies : Bookies) (by_rack : Bool) (before after : List Round) (number b : ℕ)
    → number < length before
    → IsJoined before after number b
    → All (IsRound answer bookies by_rack) before
    → bookies.is_registered b ≡ true
    → ((d : Round) → joins answer by_rack (rack_for by_rack (bookies.rack_of b)) b (get_or before number d) ≡ true)
    → All (IsRound answer bookies by_rack) after
joined-rounds answer bookies by_rack before after number b below j were registered fits =
    let old : Round = get_or before number j.round in
    subst (λ (rounds : List Round). All (IsRound answer bookies by_rack) rounds) (sym j.is)
    (All-set (IsRound answer bookies by_rack) before number j.round
    (grown answer bookies by_rack old j.round b (were number j.round below) (j.rack_is j.round) (j.bookies_are j.round) registered (fits j.round))
    were)

-- two rounds, each the one that has a bookie more or not
pub joined-pair : (answer : (ℕ → Bool) → Answer) (by_rack : Bool) (before : List Round) (number b i j : ℕ) (rack : Option ℕ) (new d : Round) → IsMonotone answer
    → number < length before
    → ((d : Round) → new.rack ≡ (get_or before number d).rack)
    → ((d : Round) → new.bookies.items ≡ (get_or before number d).bookies.items ++ b ∷ [])
    → AllPairs (AreApart answer by_rack) before
    → ((d : Round) → (get_or before number d).rack ≡ rack)
    → ((k : ℕ) (d : Round) → k < number → joins answer by_rack rack b (get_or before k d) ≡ false)
    → i < j → j < length before
    → (i ≡ number) ⊎ (i ≢ number) → (j ≡ number) ⊎ (j ≢ number)
    → AreApart answer by_rack (get_or (set before number new) i d) (get_or (set before number new) j d)
joined-pair answer by_rack before number b i j rack new d monotone below racks items were same fails order within (inl at_i) (inl at_j) =
    absurd (omega (arith, order, at_i, at_j))
joined-pair answer by_rack before number b i j rack new d monotone below racks items were same fails order within (inl at_i) (inr off_j) =
    subst (λ (x : Round). AreApart answer by_rack x (get_or (set before number new) j d)) (sym (set-at before number i new d at_i below))
    (subst (λ (y : Round). AreApart answer by_rack new y) (sym (get_or-set_other before number j new d off_j))
    (apart-earlier answer by_rack (get_or before number d) new (get_or before j d) b monotone (racks d) (items d)
    (were number j d (omega (arith, order, at_i)) within)))
joined-pair answer by_rack before number b i j rack new d monotone below racks items were same fails order within (inr off_i) (inl at_j) =
    let earlier : i < number = omega (arith, order, at_j) in
    subst (λ (x : Round). AreApart answer by_rack x (get_or (set before number new) j d)) (sym (get_or-set_other before number i new d off_i))
    (subst (λ (y : Round). AreApart answer by_rack (get_or before i d) y) (sym (set-at before number j new d at_j below))
    (apart-later answer by_rack (get_or before i d) (get_or before number d) new b (racks d) (items d)
    (λ may. not_fitting (may_join by_rack rack (get_or before i d).rack) (goes answer (is_in (b ∷ (get_or before i d).bookies.items)))
    (fails i d earlier) (subst (λ (r : Option ℕ). may_join by_rack r (get_or before i d).rack ≡ true) (same d) may))
    (were i number d earlier below)))
joined-pair answer by_rack before number b i j rack new d monotone below racks items were same fails order within (inr off_i) (inr off_j) =
    subst (λ (x : Round). AreApart answer by_rack x (get_or (set before number new) j d)) (sym (get_or-set_other before number i new d off_i))
    (subst (λ (y : Round). AreApart answer by_rack (get_or before i d) y) (sym (get_or-set_other before number j new d off_j))
    (were i j d order within))

pub joined-apart : (answer : (ℕ → Bool) → Answer) (bookies : Bookies) (by_rack : Bool) (before after : List Round) (number b : ℕ) → IsMonotone answer
    → number < length before
    → IsJoined before after number b
    → All (IsRound answer bookies by_rack) before
    → AllPairs (AreApart answer by_rack) before
    → ((d : Round) → joins answer by_rack (rack_for by_rack (bookies.rack_of b)) b (get_or before number d) ≡ true)
    → ((k : ℕ) (d : Round) → k < number → joins answer by_rack (rack_for by_rack (bookies.rack_of b)) b (get_or before k d) ≡ false)
    → AllPairs (AreApart answer by_rack) after
joined-apart answer bookies by_rack before after number b monotone below n are were fits fails =
    subst (λ (rounds : List Round). AllPairs (AreApart answer by_rack) rounds) (sym n.is)
    (λ i j d order within.
    joined-pair answer by_rack before number b i j (rack_for by_rack (bookies.rack_of b)) n.round d monotone below n.rack_is n.bookies_are were
    (λ e. joined-rack answer bookies by_rack (get_or before number e) b (are number e below) (fits e)) fails order
    (omega (arith, within, length-set before number n.round)) (same_or i number) (same_or j number))

pub joined-places : (before after : List Round) (number b : ℕ) → number < length before → IsJoined before after number b → (x : ℕ)
    → sum_by (λ round. count_by (λ y. y == x) round.bookies.items) after
    ≡ sum_by (λ round. count_by (λ y. y == x) round.bookies.items) before + cond (b == x) 1 0
joined-places before after number b below n x =
    let f : Round → ℕ = λ round. count_by (λ y. y == x) round.bookies.items in
    omega (
      arith,
      ap (λ (rounds : List Round). sum_by f rounds) n.is,
      sum_by-set f before number n.round n.round below,
      ap (λ (xs : List ℕ). count_by (λ y. y == x) xs) (n.bookies_are n.round),
      sum_by_push (λ (y : ℕ). cond {A = ℕ} (y == x) 1 0) (get_or before number n.round).bookies.items b,
    )

pub begun-rounds : (answer : (ℕ → Bool) → Answer) (bookies : Bookies) (by_rack : Bool) (before after : List Round) (b : ℕ)
    → IsBegun before after (rack_for by_rack (bookies.rack_of b)) b
    → All (IsRound answer bookies by_rack) before
    → bookies.is_registered b ≡ true
    → goes answer (is_in (b ∷ [])) ≡ true
    → All (IsRound answer bookies by_rack) after
begun-rounds answer bookies by_rack before after b n were registered is_yes_alone =
    subst (λ (rounds : List Round). All (IsRound answer bookies by_rack) rounds) (sym n.is)
    (All-push (IsRound answer bookies by_rack) before n.round were (record {
      yes = ap (λ (xs : List ℕ). goes answer (is_in xs)) n.bookies_are ∙ is_yes_alone;
      some = let one : length (b ∷ []) ≡ 1 = refl in omega (arith, ap (λ (xs : List ℕ). length xs) n.bookies_are, one);
      registered =
          subst (λ (xs : List ℕ). All (λ x. bookies.is_registered x ≡ true) xs) (sym n.bookies_are)
          (single (λ x. bookies.is_registered x ≡ true) b registered);
      rack =
          subst (λ (r : Option ℕ). All (λ x. rack_for by_rack (bookies.rack_of x) ≡ r) n.round.bookies.items) (sym n.rack_is)
          (subst (λ (xs : List ℕ). All (λ x. rack_for by_rack (bookies.rack_of x) ≡ rack_for by_rack (bookies.rack_of b)) xs) (sym n.bookies_are)
          (single (λ x. rack_for by_rack (bookies.rack_of x) ≡ rack_for by_rack (bookies.rack_of b)) b refl));
      unknown = λ keeps none. ap (λ (xs : List ℕ). length xs) n.bookies_are;
    }))

pub begun-apart : (answer : (ℕ → Bool) → Answer) (by_rack : Bool) (before after : List Round) (rack : Option ℕ) (b : ℕ)
    → IsBegun before after rack b
    → AllPairs (AreApart answer by_rack) before
    → ((k : ℕ) (d : Round) → k < length before → joins answer by_rack rack b (get_or before k d) ≡ false)
    → AllPairs (AreApart answer by_rack) after
begun-apart answer by_rack before after rack b n were fails =
    subst (λ (rounds : List Round). AllPairs (AreApart answer by_rack) rounds) (sym n.is)
    (all_pairs_push (AreApart answer by_rack) before n.round were
    (λ k d below may x among.
    let one : (b == x) ≡ true =
    sole (b == x) (sym (ap (λ (xs : List ℕ). is_in xs x) n.bookies_are) ∙ among) in
    let still : may_join by_rack rack (get_or before k d).rack ≡ true =
    subst (λ (r : Option ℕ). may_join by_rack r (get_or before k d).rack ≡ true) n.rack_is may in
    subst (λ (y : ℕ). goes answer (is_in (y ∷ (get_or before k d).bookies.items)) ≡ false) (equal b x one)
    (not_fitting (may_join by_rack rack (get_or before k d).rack) (goes answer (is_in (b ∷ (get_or before k d).bookies.items)))
    (fails k d below) still)))

-- Waves

pub none-waves : (answer : (ℕ → Bool) → Answer) (bookies : Bookies) (by_rack : Bool) (waves : Waves)
    → waves.rounds.items ≡ [] → waves.alone.items ≡ [] → AreWaves answer bookies by_rack waves
none-waves answer bookies by_rack waves rounds alone = record {
  rounds =
      subst (λ (rs : List Round). All (IsRound answer bookies by_rack) rs) (sym rounds)
      (λ k d below. absurd (omega (arith, below)));
  apart =
      subst (λ (rs : List Round). AllPairs (AreApart answer by_rack) rs) (sym rounds)
      (λ i j d order below. absurd (omega (arith, below)));
  alone =
      subst (λ (named : List Alone). All (IsAlone answer bookies) named) (sym alone)
      (λ k d below. absurd (omega (arith, below)));
}

-- no two rounds can be stopped together
pub no-two : (answer : (ℕ → Bool) → Answer) (bookies : Bookies) (by_rack : Bool) (waves : Waves) → IsMonotone answer
    → AreWaves answer bookies by_rack waves → NoTwo answer by_rack waves.rounds.items
no-two answer bookies by_rack waves monotone w i j d order below may =
    let one : Round = get_or waves.rounds.items i d in
    let other : Round = get_or waves.rounds.items j d in
    let some : 1 ≤ length other.bookies.items = (w.rounds j d below).some in
    let x : ℕ = get_or other.bookies.items 0 0 in
    let among : is_in other.bookies.items x ≡ true =
    list_any_at (λ name. name == x) other.bookies.items 0 0 (omega (arith, some)) (itself x x refl) in
    no_longer (goes answer (is_in (x ∷ one.bookies.items)))
    (goes answer (λ b. is_in one.bookies.items b || is_in other.bookies.items b))
    (monotone (is_in (x ∷ one.bookies.items)) (λ b. is_in one.bookies.items b || is_in other.bookies.items b)
    (λ y inside. within (x == y) (is_in one.bookies.items y) (is_in other.bookies.items y)
    (λ same. subst (λ (z : ℕ). is_in other.bookies.items z ≡ true) (equal x y same) among) inside))
    (w.apart i j d order below may x among) where
      within : (new here there : Bool) → (new ≡ true → there ≡ true) → (new || here) ≡ true → (here || there) ≡ true
      within true true there implies is = refl
      within true false there implies is = implies refl
      within false true there implies is = refl
      within false false there implies is = absurd (true≢false (sym is))

-- Bookies in an order

here_or : (same registered : Bool) (n : ℕ) → cond (same && registered) n 0 ≡ cond same (cond registered n 0) 0
here_or true registered n = refl
here_or false registered n = refl

nowhere : (x b : ℕ) (registered : ℕ → Bool) → registered b ≡ false → (x == b && registered x) ≡ false
nowhere x b registered fails = by (x == b) refl where
  by : (same : Bool) → (x == b) ≡ same → (same && registered x) ≡ false
  by true is = ap registered (equal x b is) ∙ fails
  by false is = refl

turned_eq : (x b : ℕ) → (x == b) ≡ (b == x)
turned_eq x b = grind (arith, nat_tests)

counted : (n b : ℕ) (registered : ℕ → Bool) (r : Bool) → registered b ≡ r → (r ≡ true → b < n)
    → count_by (λ x. x == b && registered x) (range 0 n) ≡ cond r 1 0
counted n b registered false is below =
    sum-none (λ x. cond (x == b && registered x) 1 0) (range 0 n)
    (λ x. ap (λ (t : Bool). cond {A = ℕ} t 1 0) (nowhere x b registered is))
counted n b registered true is below =
    let within : b < n = below refl in
    (λ i. sum_by (λ x. (here_or (x == b) (registered x) 1 ∙ ap (λ (t : Bool). cond {A = ℕ} t (cond (registered x) 1 0) 0) (turned_eq x b)) i) (range 0 n))
    ∙ sum-one b (λ x. cond (registered x) 1 0) 0 (n - 0) (omega arith) (omega (arith, within))
    ∙ ap (λ (t : Bool). cond {A = ℕ} t 1 0) is

-- of an order of all bookies, each that is registered counts once
pub order-counts : (bookies : List Bookie) (order : List ℕ) → IsPermutation (range 0 (length bookies)) order → (b : ℕ)
    → count_by (λ x. x == b && (bookies_of bookies).is_registered x) order ≡ cond ((bookies_of bookies).is_registered b) 1 0
order-counts bookies order permutation b =
    sum_by-IsPermutation (λ (x : ℕ). cond {A = ℕ} (x == b && (bookies_of bookies).is_registered x) 1 0) (range 0 (length bookies)) order permutation
    ∙ counted (length bookies) b (bookies_of bookies).is_registered ((bookies_of bookies).is_registered b) refl (registered-within bookies b)

-- Where a bookie is placed

module _ (answer : (ℕ → Bool) → Answer) (bookies : Bookies) (by_rack : Bool) (before after : Waves) (b : ℕ) where
  -- in the first round that it fits
  pub placed-joined : (number : ℕ)
      → position (joins answer by_rack (rack_for by_rack (bookies.rack_of b)) b) before.rounds.items ≡ Some number
      → IsJoined before.rounds.items after.rounds.items number b → after.alone.items ≡ before.alone.items
      → IsPlaced answer bookies by_rack before after b
  placed-joined number found joined same =
      subst (λ (o : Option ℕ).
      IsPlacedBy o (goes answer (is_in (b ∷ []))) (rack_for by_rack (bookies.rack_of b)) before after b)
      (sym found) (joined, same)

  -- in one that it begins
  pub placed-begun : position (joins answer by_rack (rack_for by_rack (bookies.rack_of b)) b) before.rounds.items ≡ None
      → goes answer (is_in (b ∷ [])) ≡ true
      → IsBegun before.rounds.items after.rounds.items (rack_for by_rack (bookies.rack_of b)) b
      → after.alone.items ≡ before.alone.items
      → IsPlaced answer bookies by_rack before after b
  placed-begun none may begun same =
      subst (λ (o : Option ℕ).
      IsPlacedBy o (goes answer (is_in (b ∷ []))) (rack_for by_rack (bookies.rack_of b)) before after b)
      (sym none)
      (subst (λ (y : Bool). IsPlacedBy None y (rack_for by_rack (bookies.rack_of b)) before after b) (sym may) (begun, same))

  -- in none
  pub placed-alone : position (joins answer by_rack (rack_for by_rack (bookies.rack_of b)) b) before.rounds.items ≡ None
      → goes answer (is_in (b ∷ [])) ≡ false
      → after.rounds.items ≡ before.rounds.items → IsNamed before.alone.items after.alone.items b
      → IsPlaced answer bookies by_rack before after b
  placed-alone none fails same named =
      subst (λ (o : Option ℕ).
      IsPlacedBy o (goes answer (is_in (b ∷ []))) (rack_for by_rack (bookies.rack_of b)) before after b)
      (sym none)
      (subst (λ (y : Bool). IsPlacedBy None y (rack_for by_rack (bookies.rack_of b)) before after b) (sym fails) (same, named))

-- Bookies that are placed in an order

module _ (answer : (ℕ → Bool) → Answer) (bookies : Bookies) (by_rack : Bool) where
  places_each-push : (bs : List ℕ) (first last after : Waves) (b : ℕ)
      → PlacesEach answer bookies by_rack first bs last → IsPlaced answer bookies by_rack last after b
      → PlacesEach answer bookies by_rack first (bs ++ b ∷ []) after
  places_each-push [] first last after b same placed =
      (after, subst (λ (w : Waves). IsPlaced answer bookies by_rack w after b) (sym same) placed, refl)
  places_each-push (x ∷ bs) first last after b each placed =
      (each.0, each.1, places_each-push bs each.0 last after b each.2 placed)

  pub none-placed : (waves : Waves) → waves.rounds.items ≡ [] → waves.alone.items ≡ []
      → ArePlaced answer bookies by_rack [] waves
  none-placed waves rounds alone = record { none = waves; no_rounds = rounds; no_alone = alone; places_each = refl }

  -- one that is registered is placed after the others
  pub placed-more : (order : List ℕ) (i b : ℕ) (before after : Waves) → i < length order → b ≡ get_or order i b
      → bookies.is_registered b ≡ true
      → ArePlaced answer bookies by_rack (take i order) before → IsPlaced answer bookies by_rack before after b
      → ArePlaced answer bookies by_rack (take (i + 1) order) after
  placed-more order i b before after below here registered were placed =
      let passed : List ℕ = filter bookies.is_registered (take i order) in
      let passes : bookies.is_registered (get_or order i b) ≡ true =
      ap (λ (x : ℕ). bookies.is_registered x) (sym here) ∙ registered in
      let more : filter bookies.is_registered (take (i + 1) order) ≡ passed ++ b ∷ [] =
      filter_more bookies.is_registered order i b below
      ∙ ap (λ (r : Bool). passed ++ cond r (get_or order i b ∷ []) []) passes
      ∙ ap (λ (x : ℕ). passed ++ x ∷ []) (sym here) in
      record {
        none = were.none;
        no_rounds = were.no_rounds;
        no_alone = were.no_alone;
        places_each =
            subst (λ (bs : List ℕ). PlacesEach answer bookies by_rack were.none bs after) (sym more)
            (places_each-push passed were.none before after b were.places_each placed);
      }

  -- one that isn't is passed over
  pub passed-more : (order : List ℕ) (i b : ℕ) (waves : Waves) → i < length order → b ≡ get_or order i b
      → bookies.is_registered b ≡ false
      → ArePlaced answer bookies by_rack (take i order) waves
      → ArePlaced answer bookies by_rack (take (i + 1) order) waves
  passed-more order i b waves below here not_registered were =
      let passed : List ℕ = filter bookies.is_registered (take i order) in
      let fails : bookies.is_registered (get_or order i b) ≡ false =
      ap (λ (x : ℕ). bookies.is_registered x) (sym here) ∙ not_registered in
      let same : filter bookies.is_registered (take (i + 1) order) ≡ passed =
      filter_more bookies.is_registered order i b below
      ∙ ap (λ (r : Bool). passed ++ cond r (get_or order i b ∷ []) []) fails
      ∙ append-nil passed in
      record {
        none = were.none;
        no_rounds = were.no_rounds;
        no_alone = were.no_alone;
        places_each =
            subst (λ (bs : List ℕ). PlacesEach answer bookies by_rack were.none bs waves) (sym same) were.places_each;
      }

-- How often a bookie is among those that are passed

count-more : (order : List ℕ) (k b x : ℕ) (registered : ℕ → Bool) → k < length order → b ≡ get_or order k b
    → count_by (λ y. y == x && registered y) (take (k + 1) order)
    ≡ count_by (λ y. y == x && registered y) (take k order) + cond {A = ℕ} (b == x && registered b) 1 0
count-more order k b x registered within here =
    sum_by_more (λ (y : ℕ). cond {A = ℕ} (y == x && registered y) 1 0) order k b within
    ∙ ap (λ (y : ℕ).
    count_by (λ (z : ℕ). z == x && registered z) (take k order) + cond {A = ℕ} (y == x && registered y) 1 0)
    (sym here)

one_more : (same registered : Bool) → registered ≡ true → cond {A = ℕ} (same && registered) 1 0 ≡ cond same 1 0
one_more true true is = refl
one_more false true is = refl
one_more same false is = absurd (true≢false (sym is))

none_more : (same registered : Bool) → registered ≡ false → cond {A = ℕ} (same && registered) 1 0 ≡ 0
none_more true false is = refl
none_more false false is = refl
none_more same true is = absurd (true≢false is)

pub counted-more : (order : List ℕ) (k b x : ℕ) (registered : ℕ → Bool) → k < length order → b ≡ get_or order k b
    → registered b ≡ true
    → count_by (λ y. y == x && registered y) (take (k + 1) order)
    ≡ count_by (λ y. y == x && registered y) (take k order) + cond {A = ℕ} (b == x) 1 0
counted-more order k b x registered within here is =
    count-more order k b x registered within here
    ∙ ap (λ (n : ℕ). count_by (λ (z : ℕ). z == x && registered z) (take k order) + n)
    (one_more (b == x) (registered b) is)

pub counted-same : (order : List ℕ) (k b x : ℕ) (registered : ℕ → Bool) → k < length order → b ≡ get_or order k b
    → registered b ≡ false
    → count_by (λ y. y == x && registered y) (take (k + 1) order)
    ≡ count_by (λ y. y == x && registered y) (take k order)
counted-same order k b x registered within here is =
    omega (arith, count-more order k b x registered within here, none_more (b == x) (registered b) is)
