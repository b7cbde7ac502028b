-- The order of a census: what two censuses count alike, they list alike.
use Rattle.std.specs.Prelude.{◌≡◌, ◌≤◌, ℕ, List, All, length}
use Rattle.std.specs.Cmp.Lexicographic.{slice_cmp}
use Rattle.std.specs.List.{AllAdjacentBelow}
use Rattle.std.specs.Ordering.{bool_cmp, nat_cmp, on, then_cmp}
use Rattle.std.specs.declared.cmp.Ordering.{Ordering}
use Rattle.std.specs.declared.cmp.Ordering.TheVariants.{Less}
use Rattle.reh_census.specs.declared.censuses.Tail.{Tail}
use Rattle.reh_census.specs.declared.classes.Class.{Class}
use Rattle.reh_census.specs.Counting.{Census}

-- of lists of bookies, by the first at which they differ; a list comes before those that go on after it
abbrev pub names_cmp : List ℕ → List ℕ → Ordering
names_cmp = slice_cmp nat_cmp

-- of classes: by the known copies, then by the untold ones, then by the quorums
abbrev pub class_cmp : Class → Class → Ordering
class_cmp =
    then_cmp (then_cmp (then_cmp (on (λ c. c.known) names_cmp) (on (λ c. c.untold) names_cmp)) (on (λ c. c.ack_quorum) nat_cmp))
    (on (λ c. c.write_quorum) nat_cmp)

-- of tails: by the sizes, then OPEN ones last, then by the ensembles
abbrev pub tail_cmp : Tail → Tail → Ordering
tail_cmp =
    then_cmp
    (then_cmp (then_cmp (then_cmp (on (λ t. t.size) nat_cmp) (on (λ t. t.write_quorum) nat_cmp)) (on (λ t. t.ack_quorum) nat_cmp))
    (on (λ t. t.is_open) bool_cmp))
    (on (λ t. t.ensemble) names_cmp)

-- each comes before the next one, so none comes twice
abbrev pub InOrder : {X : Type 0} → (X → X → Ordering) → List X → Type 0
InOrder cmp xs = AllAdjacentBelow (λ one next. cmp one next ≡ Less) xs (length xs)

-- a census has one line for each class, tail and ensemble that comes at all, and these are in order
pub record IsInOrder (census : Census) : Type 0 where
  pub entries : InOrder (on (λ c. c.class) class_cmp) census.entries
  pub tails : InOrder (on (λ t. t.tail) tail_cmp) census.tails
  pub ensembles : InOrder (on (λ e. e.members) names_cmp) census.ensembles
  pub some_entries : All (λ c. 1 ≤ c.count) census.entries
  pub some_ledgers : All (λ t. 1 ≤ t.count) census.tails
  pub some_fragments : All (λ e. 1 ≤ e.count) census.ensembles
