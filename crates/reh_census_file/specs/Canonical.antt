-- The form of a census that has a text: one for what it says.
use Rattle.std.specs.Prelude.{◌≡◌, ℕ, ◌+◌, ◌<◌, ◌≤◌, ◌^◌, ◌&&◌, nat_le, nat_lt, max, not, Bool, true, List, [], ◌∷◌, length, codes, Option, None, Some, IfSome}
use Rattle.std.specs.Char.{is_ascii_graphic}
use Rattle.std.specs.List.{AllByRecursion, list_all, list_any}
use Rattle.std.specs.Ordering.{on}
use Rattle.std.specs.Str.{bytes_eq}
use Rattle.reh_census.specs.declared.bookies.Bookie.{Bookie}
use Rattle.reh_census.specs.declared.censuses.CountedEnsemble.{CountedEnsemble}
use Rattle.reh_census.specs.declared.censuses.CountedTail.{CountedTail}
use Rattle.reh_census.specs.declared.censuses.Judged.{Judged}
use Rattle.reh_census.specs.declared.censuses.Tail.{Tail}
use Rattle.reh_census.specs.declared.classes.Class.{Class}
use Rattle.reh_census.specs.declared.classes.Counted.{Counted}
use Rattle.reh_census.specs.Bookies.{bookies_of, is_holder}
use Rattle.reh_census.specs.Copies.{is_in}
use Rattle.reh_census.specs.Counting.{ensembles_in, entries_in, not_judged, tails_in}
use Rattle.reh_census.specs.Order.{InOrder, class_cmp, names_cmp, tail_cmp}
use Rattle.reh_census_file.specs.Names.{IsNameList}
use Rattle.reh_census_file.specs.Values.{NamedCensus}

-- a name is a word of 1 to 300 bytes, each 0x21 to 0x7E
abbrev pub is_name : List ℕ → Bool
is_name word = nat_lt 0 (length word) && (nat_le (length word) 300 && list_all is_ascii_graphic word)

-- Bookies

-- how many racks are named once this bookie is, where so many were before
abbrev pub next_rack : ℕ → Option ℕ → ℕ
next_rack count None = count
next_rack count (Some rack) = max count (rack + 1)

-- racks are numbered as bookies first name them: so many are named before these bookies, and so many with them
abbrev pub AreNumbered : ℕ → List Bookie → ℕ → Type 0
AreNumbered before [] after = before ≡ after
AreNumbered before (b ∷ bs) after = IfSome b.rack (λ rack. rack ≤ before) × AreNumbered (next_rack before b.rack) bs after

-- bookies by name, each once, and their racks
pub record AreBookies (names racks : List (List ℕ)) (bookies : List Bookie) : Type 0 where
  pub few_names : IsNameList names
  pub named : AllByRecursion (λ name. is_name name ≡ true) names
  pub order : InOrder names_cmp names
  pub each : length bookies ≡ length names
  pub few_racks : IsNameList racks
  pub racked : AllByRecursion (λ name. is_name name ≡ true) racks
  pub numbered : AreNumbered 0 bookies (length racks)

-- What was judged

pub record IsJudged (judged : Judged) : Type 0 where
  pub ledgers : judged.ledgers ≤ 2 ^ 63
  pub assumed : judged.assumed ≤ 2 ^ 63
  pub not_judged : not_judged judged ≤ 2 ^ 63

-- Entries

-- whether a number is less than the first of others
abbrev pub is_below : ℕ → List ℕ → Bool
is_below x [] = true
is_below x (y ∷ ys) = nat_lt x y

-- whether each number is less than the next
abbrev pub are_rising : List ℕ → Bool
are_rising [] = true
are_rising (x ∷ xs) = is_below x xs && are_rising xs

abbrev pub are_quorums : Class → Bool
are_quorums class =
    nat_le 1 class.ack_quorum && (nat_le class.ack_quorum class.write_quorum && nat_le class.write_quorum 64)

-- the known copies and the untold ones are on bookies that may hold some, in order, each once, and no more than the write
-- quorum
abbrev pub are_copies : List Bookie → Class → Bool
are_copies bookies class =
    nat_le (length class.known + length class.untold) class.write_quorum
    && ((are_rising class.known && are_rising class.untold)
    && ((list_all (is_holder (bookies_of bookies)) class.known && list_all (is_holder (bookies_of bookies)) class.untold)
    && not (list_any (is_in class.known) class.untold)))

pub record AreEntries (bookies : List Bookie) (entries : List Counted) : Type 0 where
  pub some : AllByRecursion (λ c. 1 ≤ c.count) entries
  pub quorums : AllByRecursion (λ c. are_quorums c.class ≡ true) entries
  pub copies : AllByRecursion (λ c. are_copies bookies c.class ≡ true) entries
  pub order : InOrder (on (λ c. c.class) class_cmp) entries
  pub within : entries_in entries ≤ 2 ^ 63

-- Tails

abbrev pub are_sizes : Tail → Bool
are_sizes tail =
    nat_le 1 tail.ack_quorum && (nat_le tail.ack_quorum tail.write_quorum
    && (nat_le tail.write_quorum tail.size && nat_le tail.size 64))

-- where so many bookies have a name
pub record AreTails (names : ℕ) (tails : List CountedTail) : Type 0 where
  pub some : AllByRecursion (λ t. 1 ≤ t.count) tails
  pub sizes : AllByRecursion (λ t. are_sizes t.tail ≡ true) tails
  pub whole : AllByRecursion (λ t. length t.tail.ensemble ≡ t.tail.size) tails
  pub named : AllByRecursion (λ t. AllByRecursion (λ b. b < names) t.tail.ensemble) tails
  pub order : InOrder (on (λ t. t.tail) tail_cmp) tails
  pub within : tails_in tails ≤ 2 ^ 63

-- Ensembles

-- 1 to 64 bookies, in order, each once
abbrev pub are_members : List ℕ → Bool
are_members members = nat_lt 0 (length members) && (nat_le (length members) 64 && are_rising members)

pub record AreEnsembles (names : ℕ) (ensembles : List CountedEnsemble) : Type 0 where
  pub some : AllByRecursion (λ e. 1 ≤ e.count) ensembles
  pub members : AllByRecursion (λ e. are_members e.members ≡ true) ensembles
  pub named : AllByRecursion (λ e. AllByRecursion (λ b. b < names) e.members) ensembles
  pub order : InOrder (on (λ e. e.members) names_cmp) ensembles
  pub within : ensembles_in ensembles ≤ 2 ^ 63

-- The census

-- a time is a name, and not that there is none
abbrev pub is_time : List ℕ → Bool
is_time time = is_name time && not (bytes_eq time (codes "-"))

pub record IsCanonical (c : NamedCensus) : Type 0 where
  pub bookies : AreBookies c.names c.racks c.bookies
  pub judged : IsJudged c.census.judged
  pub entries : AreEntries c.bookies c.census.entries
  pub tails : AreTails (length c.names) c.census.tails
  pub ensembles : AreEnsembles (length c.names) c.census.ensembles
  pub taken : IfSome c.taken (λ time. is_time time ≡ true)
