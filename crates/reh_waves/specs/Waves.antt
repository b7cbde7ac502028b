-- Rounds of a rolling restart.
use Rattle.std.specs.Prelude.{◌≡◌, ◌≤◌, ◌+◌, ℕ, Bool, true, false, not, ◌||◌, ◌&&◌, ◌++◌, slice_set, slice_index_or, ◌==◌, if◌then◌else◌, All, AllPairs, List, [], ◌∷◌, Option, None, Some, count_by, filter, position, sum_by, length}
use Rattle.std.specs.Option.{option_map_or}
use Rattle.reh_census.specs.Answers.{answer_on, is_yes}
use Rattle.reh_census.specs.Bookies.{Bookies}
use Rattle.reh_census.specs.Copies.{is_in}
use Rattle.reh_census.specs.Counting.{Census, counting_in, not_judged}
use Rattle.reh_census.specs.declared.answers.Answer.{Answer}
use Rattle.reh_census.specs.declared.questions.Question.{Question}
use Rattle.reh_waves.specs.declared.waves.Alone.{Alone}
use Rattle.reh_waves.specs.declared.waves.Round.{Round}
use Rattle.reh_waves.specs.declared.waves.Waves.{Waves}

-- the answer on these bookies, by the census
abbrev pub answer_in : Census → Bookies → Question → (ℕ → Bool) → Answer
answer_in census bookies question = answer_on (counting_in census) bookies question (not_judged census.judged)

-- whether that answer is a yes
abbrev pub goes : ((ℕ → Bool) → Answer) → (ℕ → Bool) → Bool
goes answer stopped = is_yes (answer stopped)

-- the rack that a round keeps to: none, where rounds may go over racks
abbrev pub rack_for : Bool → Option ℕ → Option ℕ
rack_for by_rack rack = if by_rack then rack else None

-- whether a bookie of this rack may join a round of that one: where rounds keep to racks, both are known and the same
abbrev pub may_join : Bool → Option ℕ → Option ℕ → Bool
may_join by_rack rack other = not by_rack || option_map_or (λ r. option_map_or (λ o. r == o) other false) rack false

-- whether it may, and may be stopped with the round
abbrev pub joins : ((ℕ → Bool) → Answer) → Bool → Option ℕ → ℕ → Round → Bool
joins answer by_rack rack b round = may_join by_rack rack round.rack && goes answer (is_in (b ∷ round.bookies.items))

-- a round: registered bookies of its rack that may be stopped together; where rounds keep to racks, one without a known
-- rack is in a round of its own
pub record IsRound (answer : (ℕ → Bool) → Answer) (bookies : Bookies) (by_rack : Bool) (round : Round) : Type 0 where
  pub yes : goes answer (is_in round.bookies.items) ≡ true
  pub some : 1 ≤ length round.bookies.items
  pub registered : All (λ b. bookies.is_registered b ≡ true) round.bookies.items
  pub rack : All (λ b. rack_for by_rack (bookies.rack_of b) ≡ round.rack) round.bookies.items
  pub unknown : by_rack ≡ true → round.rack ≡ None → length round.bookies.items ≡ 1

-- no bookie of the later round could be stopped with the earlier one, where they may be one round
abbrev pub AreApart : ((ℕ → Bool) → Answer) → Bool → Round → Round → Type 0
AreApart answer by_rack earlier later =
    may_join by_rack later.rack earlier.rack ≡ true
    → (b : ℕ) → is_in later.bookies.items b ≡ true
    → goes answer (is_in (b ∷ earlier.bookies.items)) ≡ false

-- a bookie that can't be stopped even alone, and what speaks against it
pub record IsAlone (answer : (ℕ → Bool) → Answer) (bookies : Bookies) (alone : Alone) : Type 0 where
  pub registered : bookies.is_registered alone.bookie ≡ true
  pub answer_is : alone.answer ≡ answer (is_in (alone.bookie ∷ []))
  pub not_yes : is_yes alone.answer ≡ false

-- rounds, and bookies that can't be stopped
pub record AreWaves (answer : (ℕ → Bool) → Answer) (bookies : Bookies) (by_rack : Bool) (waves : Waves) : Type 0 where
  pub rounds : All (IsRound answer bookies by_rack) waves.rounds.items
  pub apart : AllPairs (AreApart answer by_rack) waves.rounds.items
  pub alone : All (IsAlone answer bookies) waves.alone.items

-- no two rounds that may be one can be stopped together
abbrev pub NoTwo : ((ℕ → Bool) → Answer) → Bool → List Round → Type 0
NoTwo answer by_rack rounds =
    AllPairs
    (λ one other. may_join by_rack other.rack one.rack ≡ true
    → goes answer (λ b. is_in one.bookies.items b || is_in other.bookies.items b) ≡ false)
    rounds

-- how often the bookie is in rounds, or named alone
abbrev pub places : Waves → ℕ → ℕ
places waves b =
    sum_by (λ round. count_by (λ x. x == b) round.bookies.items) waves.rounds.items
    + count_by (λ alone. alone.bookie == b) waves.alone.items

-- the round of this number has one bookie more, at its end
pub record IsJoined (before after : List Round) (number b : ℕ) : Type 0 where
  pub round : Round
  pub is : after ≡ slice_set before number round
  pub rack_is : (d : Round) → round.rack ≡ (slice_index_or before number d).rack
  pub bookies_are : (d : Round) → round.bookies.items ≡ (slice_index_or before number d).bookies.items ++ b ∷ []

-- there is one round more, of this bookie alone
pub record IsBegun (before after : List Round) (rack : Option ℕ) (b : ℕ) : Type 0 where
  pub round : Round
  pub is : after ≡ before ++ round ∷ []
  pub rack_is : round.rack ≡ rack
  pub bookies_are : round.bookies.items ≡ b ∷ []

-- there is one more that is named alone, at the end: this bookie
pub record IsNamed (before after : List Alone) (b : ℕ) : Type 0 where
  pub alone : Alone
  pub is : after ≡ before ++ alone ∷ []
  pub bookie_is : alone.bookie ≡ b

-- Bookies in their order

-- the bookie has joined the round of this number; where there is none, it has begun a round, if it may be stopped at all, and
-- else it is named alone. Nothing else has changed
abbrev pub IsPlacedBy : Option ℕ → Bool → Option ℕ → Waves → Waves → ℕ → Type 0
IsPlacedBy (Some number) may_stop rack before after b =
    IsJoined before.rounds.items after.rounds.items number b × (after.alone.items ≡ before.alone.items)
IsPlacedBy None true rack before after b =
    IsBegun before.rounds.items after.rounds.items rack b × (after.alone.items ≡ before.alone.items)
IsPlacedBy None false rack before after b =
    (after.rounds.items ≡ before.rounds.items) × IsNamed before.alone.items after.alone.items b

-- the bookie has joined the first round that it may join and that stays a yes with it; where there is none, it has begun a
-- round or is named alone
abbrev pub IsPlaced : ((ℕ → Bool) → Answer) → Bookies → Bool → Waves → Waves → ℕ → Type 0
IsPlaced answer bookies by_rack before after b =
    let rack = rack_for by_rack (bookies.rack_of b) in
    IsPlacedBy (position (joins answer by_rack rack b) before.rounds.items) (goes answer (is_in (b ∷ []))) rack before after b

-- each of these bookies has been placed so, one after the other
abbrev pub PlacesEach : ((ℕ → Bool) → Answer) → Bookies → Bool → Waves → List ℕ → Waves → Type 0
PlacesEach answer bookies by_rack first [] last = first ≡ last
PlacesEach answer bookies by_rack first (b ∷ bs) last =
    (next : Waves) × IsPlaced answer bookies by_rack first next b × PlacesEach answer bookies by_rack next bs last

-- beginning with no round and none named alone, the registered bookies have been placed in this order
pub record ArePlaced (answer : (ℕ → Bool) → Answer) (bookies : Bookies) (by_rack : Bool) (order : List ℕ) (waves : Waves) : Type 0 where
  pub none : Waves
  pub no_rounds : none.rounds.items ≡ []
  pub no_alone : none.alone.items ≡ []
  pub places_each : PlacesEach answer bookies by_rack none (filter bookies.is_registered order) waves
