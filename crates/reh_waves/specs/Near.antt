-- The part of a census that names some bookies.
use Rattle.std.specs.Prelude.{◌≡◌, ◌≤◌, ℕ, Bool, true, false, ◌&&◌, ◌||◌, ◌/◌, not, nat_le, nat_lt, All, [], length}
use Rattle.std.specs.List.{list_any}
use Rattle.reh_census.specs.Answers.{IsAllZero, numbers_on}
use Rattle.reh_census.specs.Bookies.{Bookies, writable}
use Rattle.reh_census.specs.Copies.{IsPart}
use Rattle.reh_census.specs.Counting.{Census, count_in, count_tails_in, counting_in}
use Rattle.reh_census.specs.Tails.{breaks_replaceable, lacks_bookies, lacks_racks, takes_disk}
use Rattle.reh_census.specs.declared.censuses.Tail.{Tail}
use Rattle.reh_census.specs.declared.classes.Class.{Class}
use Rattle.reh_census.specs.declared.questions.Question.{Question}

-- whether one of these bookies is told to hold the entry, or untold
abbrev pub names_class : (ℕ → Bool) → Class → Bool
names_class among class = list_any among class.known || list_any among class.untold

-- whether one of them is a member of the ledger's last ensemble
abbrev pub names_tail : (ℕ → Bool) → Tail → Bool
names_tail among tail = list_any among tail.ensemble

-- the part of the census that names some of these bookies, without ensembles
pub record IsNear (census near : Census) (among : ℕ → Bool) : Type 0 where
  pub entries : (test : Class → Bool) → count_in near.entries test ≡ count_in census.entries (λ class. test class && names_class among class)
  pub tails : (test : Tail → Bool) → count_tails_in near.tails test ≡ count_tails_in census.tails (λ tail. test tail && names_tail among tail)
  pub ensembles : near.ensembles ≡ []

-- the largest ensemble of a ledger that isn't closed, and of a fragment
pub record AreLargest (census : Census) (tail ensemble : ℕ) : Type 0 where
  pub tails : All (λ t. t.tail.size ≤ tail) census.tails
  pub ensembles : All (λ e. length e.members ≤ ensemble) census.ensembles

-- no ledger breaks a rule for lack of bookies to write to, of racks, or of places, and no disk goes
pub record IsLocal (census : Census) (bookies : Bookies) (question : Question) (stopped : ℕ → Bool) : Type 0 where
  pub no_disk : list_any (takes_disk bookies question stopped) bookies.names ≡ false
  pub no_racks : lacks_racks bookies question stopped ≡ false
  pub room : All (λ t. lacks_bookies bookies stopped t.tail.size ≡ false) census.tails
  pub places : All (λ e. breaks_replaceable bookies question stopped e.members ≡ false) census.ensembles

-- these bookies are stopped beside others that break nothing, and what they may break is in the near part
pub record IsEnough (census near : Census) (bookies : Bookies) (question : Question) (stopped : ℕ → Bool) : Type 0 where
  pub base : ℕ → Bool
  pub among : ℕ → Bool
  pub near_is : IsNear census near among
  pub part : IsPart base stopped
  pub within : (b : ℕ) → stopped b ≡ true → (base b || among b) ≡ true
  pub zero : IsAllZero (numbers_on (counting_in census) bookies question 0 base)

-- whether each place finds a bookie, whatever the ensemble
abbrev pub has_places : Question → ℕ → ℕ → Bool
has_places question largest writable_then = not question.for_good || nat_le largest (writable_then / 2)

-- a test for that
abbrev pub is_local : Bookies → Question → ℕ → ℕ → (ℕ → Bool) → Bool
is_local bookies question tail ensemble stopped =
    not (nat_lt (writable bookies stopped) tail)
    && (has_places question ensemble (writable bookies stopped)
    && (not (list_any (takes_disk bookies question stopped) bookies.names) && not (lacks_racks bookies question stopped)))
