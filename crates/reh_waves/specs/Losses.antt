-- What the loss of bookies would break.
use Rattle.std.specs.Prelude.{ℕ, Bool, false, ◌==◌, List, [], ◌∷◌, ◌++◌, map, ◌<◌}
use Rattle.std.specs.Cmp.Lexicographic.{slice_cmp}
use Rattle.std.specs.List.Sorted.{IsPermutation, IsSortedBy, IsStableBy}
use Rattle.std.specs.Option.{option_map_or}
use Rattle.std.specs.Ordering.{is_lt, nat_cmp}
use Rattle.reh_census.specs.Answers.{numbers_on}
use Rattle.reh_census.specs.Bookies.{Bookies}
use Rattle.reh_census.specs.Copies.{is_in}
use Rattle.reh_census.specs.Counting.{Counting}
use Rattle.reh_census.specs.declared.answers.Numbers.{Numbers}
use Rattle.reh_census.specs.declared.questions.Question.{Question}
use Rattle.reh_waves.specs.declared.losses.Loss.{Loss}
use Rattle.reh_waves.specs.declared.losses.Lost.{Lost}
use Rattle.reh_waves.specs.declared.losses.Lost.TheVariants.{Bookie, Rack, Pair}

-- the bookies that are lost: one, all of a rack, two
abbrev pub stopped_by : Bookies → Lost → ℕ → Bool
stopped_by bookies (Bookie lost) = is_in (lost ∷ [])
stopped_by bookies (Rack rack) = λ b. option_map_or (λ r. r == rack) (bookies.rack_of b) false
stopped_by bookies (Pair one other) = is_in (other ∷ one ∷ [])

-- a loss, with the numbers of every rule
abbrev pub loss_on : Counting → Bookies → Question → ℕ → Lost → Loss
loss_on counting bookies question not_judged lost = record {
  lost = lost;
  numbers = numbers_on counting bookies question not_judged (stopped_by bookies lost);
}

-- the numbers in the order of the rules: what is broken first, and then what nobody knows
abbrev pub weights : Numbers → List ℕ
weights numbers =
    numbers.readable.no
    ∷ numbers.kept.no
    ∷ numbers.recoverable
    ∷ numbers.writable
    ∷ numbers.replaceable
    ∷ numbers.readable.unknown
    ∷ numbers.kept.unknown
    ∷ numbers.disks
    ∷ []

-- whether the first number of the two losses that isn't the same is greater for this one
abbrev pub is_worse : Loss → Loss → Bool
is_worse loss other = is_lt (slice_cmp nat_cmp (weights other.numbers) (weights loss.numbers))

-- these losses, worst first: those of the same numbers in the order that they had
pub record AreRanked (losses ranked : List Loss) : Type 0 where
  pub permutation : IsPermutation losses ranked
  pub sorted : IsSortedBy is_worse ranked
  pub stable : IsStableBy is_worse losses ranked

-- each two bookies
abbrev pub pairs_of : List ℕ → List Lost
pairs_of [] = []
pairs_of (b ∷ bookies) = map (λ other. Pair b other) bookies ++ pairs_of bookies

-- whether what is lost has a number, of so many bookies
abbrev pub IsWithin : ℕ → Lost → Type 0
IsWithin count (Bookie lost) = lost < count
IsWithin count (Rack rack) = Unit {0}
IsWithin count (Pair one other) = (one < count) × (other < count)
