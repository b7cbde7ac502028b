-- How many bookies may fail before an entry is lost.
use Rattle.std.specs.Prelude.{◌≡◌, ℕ, ◌<◌, ◌+◌, ◌-◌, ◌==◌, Bool, true, ◌≤◌, cond, nat_lt, List, [], ◌∷◌, Option, MatchOption, count_by, length, min}
use Rattle.std.specs.List.{list_any}
use Rattle.std.specs.Option.{option_map_or}
use Rattle.reh_census.specs.Bookies.{Bookies, is_holder}
use Rattle.reh_census.specs.Copies.{is_in}
use Rattle.reh_census.specs.Rules.{breaks_readable}
use Rattle.reh_census.specs.Striping.{range}
use Rattle.reh_census.specs.Tails.{members}
use Rattle.reh_census.specs.declared.censuses.Tail.{Tail}
use Rattle.reh_census.specs.declared.classes.Class.{Class}

-- how many different bookies these are
abbrev pub how_many : List ℕ → ℕ
how_many [] = 0
how_many (b ∷ names) = cond (is_in names b) 0 1 + how_many names

-- whether an entry of this class has a known copy, and none without these bookies
abbrev pub loses_known : List ℕ → Class → Bool
loses_known stopped class = breaks_readable (is_in stopped) class.known

-- where fewer bookies than this are stopped, whichever they are, no entry that has a known copy loses its last one; and
-- of some entry so many bookies have all of the known copies
pub record IsFewest (count : (Class → Bool) → ℕ) (copies : ℕ) : Type 0 where
  pub none_lost : (stopped : List ℕ) → length stopped < copies → count (loses_known stopped) ≡ 0
  pub some_lost : (stopped : List ℕ) × (length stopped ≡ copies) × (0 < count (loses_known stopped))

-- the fewest known copies of any entry that has one, or none where no entry has
abbrev pub AreFewest : ((Class → Bool) → ℕ) → Option ℕ → Type 0
AreFewest count fewest = MatchOption fewest (count (λ class. nat_lt 0 (length class.known)) ≡ 0) (IsFewest count)

-- how many members of the entry's write set may hold copies, past those that needn't have an acknowledged one: so many
-- known or unknown copies it has
abbrev pub spare : Bookies → Tail → ℕ → ℕ
spare bookies tail entry =
    count_by (is_holder bookies) (members tail entry) - (tail.write_quorum - tail.ack_quorum)

-- no write set of a ledger that isn't closed has fewer, and some has so many
pub record IsLeastSpare (count : (Tail → Bool) → ℕ) (bookies : Bookies) (copies : ℕ) : Type 0 where
  pub none_less : count (λ tail. list_any (λ entry. nat_lt (spare bookies tail entry) copies) (range 0 tail.size)) ≡ 0
  pub some_has : 0 < count (λ tail. list_any (λ entry. spare bookies tail entry == copies) (range 0 tail.size))

-- the least of all, or none where every ledger is closed
abbrev pub AreLeastSpare : ((Tail → Bool) → ℕ) → Bookies → Option ℕ → Type 0
AreLeastSpare count bookies least = MatchOption least (count (λ tail. true) ≡ 0) (IsLeastSpare count bookies)

-- the less of the two
abbrev pub least_of : Option ℕ → ℕ → ℕ
least_of least number = option_map_or (λ n. min n number) least number

-- the least of n values
pub record IsLeastOf (value : ℕ → ℕ) (n least : ℕ) : Type 0 where
  pub each : (k : ℕ) → k < n → least ≤ value k
  pub some : (k : ℕ) × (k < n) × (value k ≡ least)
