-- What a counter has counted.
use Rattle.std.specs.Prelude.{◌≡◌, ℕ, true, false, List, [], ◌∷◌, map, length, if◌then◌else◌}
use Rattle.std.specs.List.{list_all, list_any}
use Rattle.reh_census.specs.Bookies.{bookies_of, holders}
use Rattle.reh_census.specs.Counting.{count_entries}
use Rattle.reh_inventory.specs.declared.ledgers.LedgerLine.{LedgerLine}
use Rattle.reh_inventory_census.specs.declared.counter.Counter.{Counter}
use Rattle.reh_inventory_census.specs.declared.counter.LedgerCount.{LedgerCount}
use Rattle.reh_inventory_census.specs.Counted.{assumed, counted}
use Rattle.reh_inventory_census.specs.Counting.{CountsLedgers, is_held}
use Rattle.reh_inventory_census.specs.Empties.{holds_though_empty}
use Rattle.reh_inventory_census.specs.Numbers.{members_named}
use Rattle.reh_inventory_census.specs.Parts.{parts_in, parts_of}

-- both count alike, in the same cluster
pub record IsOfSame (one other : Counter) : Type 0 where
  pub names : one.names ≡ other.names
  pub bookies : one.bookies ≡ other.bookies
  pub assumes : one.assumes_striped ≡ other.assumes_striped
  pub strict : one.is_strict ≡ other.is_strict

abbrev pub holders_of : Counter → List ℕ
holders_of c = holders (bookies_of c.bookies)

-- how many entries of this part have a known copy by an assumption; with `strict` none
abbrev pub assumed_more : Counter → LedgerLine → ℕ
assumed_more c part =
    if c.is_strict then 0
    else count_entries (holders_of c) (assumed c.names c.assumes_striped part ∷ []) is_held

-- it has counted these parts of ledgers
pub record CountsParts (parts : List LedgerLine) (c : Counter) : Type 0 where
  pub counts : CountsLedgers (holders_of c) (map (counted c.names c.assumes_striped c.is_strict) parts) c.counts
  pub assumed_by : c.assumed
      ≡ (if c.is_strict then 0
      else count_entries (holders_of c) (map (assumed c.names c.assumes_striped) parts) is_held)

-- a counter that has counted this and nothing else
abbrev pub with_count : Counter → LedgerCount → Counter
with_count c count = record c { counts = count.counts; assumed = count.assumed }

-- this was counted of the ledger of a line, each of whose members has a number, and none of whose contents says that a bookie
-- holds entries which came back without its disk
pub record IsLedgerCount (c : Counter) (line : LedgerLine) (count : LedgerCount) : Type 0 where
  pub parts : CountsParts (parts_of line) (with_count c count)
  pub named : members_named c.names line ≡ true
  pub empties : list_any (holds_though_empty c.names c.bookies) line.contents ≡ false

-- it has counted the ledgers of these lines, each of whose members has a number
pub record CountsLines (lines : List LedgerLine) (c : Counter) : Type 0 where
  pub parts : CountsParts (parts_in lines) c
  pub ledgers : c.ledgers ≡ length lines
  pub named : list_all (members_named c.names) lines ≡ true
