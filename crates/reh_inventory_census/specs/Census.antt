-- The census of an inventory: that of the ledgers which its lines have.
use Rattle.std.specs.Prelude.{◌≡◌, ℕ, Bool, true, List, [], ◌∷◌, Option, None, Some, Result, Ok, Err, IfOk, length, map, option_map, string_bytes, if◌then◌else◌}
use Rattle.std.specs.List.{flat_map, list_all}
use Rattle.std.specs.Option.{IsSomeAnd, option_map_or}
use Rattle.reh_census.specs.declared.censuses.Judged.{Judged}
use Rattle.reh_census.specs.Bookies.{bookies_of as census_bookies, holders}
use Rattle.reh_census.specs.Counting.{count_entries}
use Rattle.reh_census.specs.Order.{IsInOrder}
use Rattle.reh_census_file.specs.Values.{NamedCensus}
use Rattle.reh_inventory.specs.declared.heads.Head.{Head}
use Rattle.reh_inventory.specs.declared.ledgers.LedgerLine.{LedgerLine}
use Rattle.reh_inventory.specs.declared.lines.Line.{Line}
use Rattle.reh_inventory.specs.declared.lines.Line.TheVariants as line
use Rattle.reh_inventory.specs.Inventories.{Inventory, inventory_of, ledger_in, ledger_of}
use Rattle.reh_inventory.specs.Lines.{located_line_of}
use Rattle.reh_inventory_census.specs.declared.census.CountedLine.{CountedLine}
use Rattle.reh_inventory_census.specs.declared.census.CountedLine.TheVariants as counted_line
use Rattle.reh_inventory_census.specs.declared.census.InventoryCount.{InventoryCount}
use Rattle.reh_inventory_census.specs.declared.counter.Counter.{Counter}
use Rattle.reh_inventory_census.specs.declared.counter.LedgerCount.{LedgerCount}
use Rattle.reh_inventory_census.specs.declared.faults.CountFault.{CountFault}
use Rattle.reh_inventory_census.specs.Bookies.{bookie_of, racks_of}
use Rattle.reh_inventory_census.specs.Counted.{assumed, counted}
use Rattle.reh_inventory_census.specs.Counters.{CountsLines, IsLedgerCount}
use Rattle.reh_inventory_census.specs.Counting.{CountsLedgers, counts_in, is_held}
use Rattle.reh_inventory_census.specs.Numbers.{bookies_named, members_named}
use Rattle.reh_inventory_census.specs.Parts.{parts_in}
use Rattle.reh_inventory_fields.specs.declared.faults.Fault.{Fault}
use Rattle.reh_inventory_fields.specs.declared.places.Place.{Place}

-- the first line that a line is, if it is one
abbrev pub head_of : Line → Option Head
head_of (line.Head head) = Some head
head_of (line.Ledger ledger) = None
head_of (line.Unread id) = None
head_of (line.End ledgers) = None

abbrev pub head_said : Result Line (Fault × Place) → Option Head
head_said (Ok said) = head_of said
head_said (Err found) = None

abbrev pub head_in : List ℕ → Option Head
head_in bytes = head_said (located_line_of bytes)

-- the ledger of a line, if it has one that was read
abbrev pub ledger_line : List ℕ → List LedgerLine
ledger_line bytes = option_map_or (λ ledger. ledger ∷ []) (ledger_in bytes) []

-- the ledgers of lines
abbrev pub ledger_lines : List (List ℕ) → List LedgerLine
ledger_lines lines = flat_map ledger_line lines

-- the cluster of a first line, where bookies have the numbers of these names, each of them one
pub record IsCluster (names : List (List ℕ)) (head : Head) (count : InventoryCount) : Type 0 where
  pub names_are : count.counter.names ≡ names
  pub named : bookies_named names head.bookies ≡ true
  pub racks : count.racks ≡ racks_of head.bookies
  pub bookies : count.counter.bookies ≡ map (bookie_of (racks_of head.bookies) head.bookies) names
  pub assumes : count.counter.assumes_striped ≡ head.assumes_striped
  pub taken : option_map string_bytes count.taken ≡ head.taken

-- this first line was read, and these lines after it were counted
pub record IsCount (names : List (List ℕ)) (strict : Bool) (first : List ℕ) (lines : List (List ℕ)) (count : InventoryCount) : Type 0 where
  pub inventory : inventory_of (first ∷ lines) ≡ Ok count.inventory
  pub cluster : IsSomeAnd (head_in first) (λ head. IsCluster names head count)
  pub strict_is : count.counter.is_strict ≡ strict
  pub ledgers : CountsLines (ledger_lines lines) count.counter

-- these bytes say this, and have no ledger that was read
pub record IsOtherLine (bytes : List ℕ) (said : Line) : Type 0 where
  pub says : located_line_of bytes ≡ Ok said
  pub no_ledger : ledger_of said ≡ None

-- these bytes say a ledger of this id, of which this was counted, by the counter
pub record IsLedgerLine (c : Counter) (bytes : List ℕ) (id : ℕ) (count : Result LedgerCount CountFault) : Type 0 where
  pub ledger : LedgerLine
  pub says : located_line_of bytes ≡ Ok (line.Ledger ledger)
  pub has_id : ledger.id ≡ id
  pub counted : IfOk count (IsLedgerCount c ledger)

-- a line of these bytes, as it was counted beside what was counted before it
abbrev pub IsCountedLine : InventoryCount → List ℕ → CountedLine → Type 0
IsCountedLine counted bytes (counted_line.Other said) = IsOtherLine bytes said
IsCountedLine counted bytes (counted_line.Ledger id count) = IsLedgerLine counted.counter bytes id count

-- how an inventory was judged: where no last line came, a ledger may be missing
abbrev pub judged_by : Inventory → ℕ → ℕ → Judged
judged_by inventory ledgers assumed = record {
  ledgers = ledgers;
  assumed = assumed;
  unread = inventory.unread;
  missing = if inventory.is_whole then 0 else 1;
}

-- how many entries of the ledgers of these lines have a known copy by an assumption; with `strict` none
abbrev pub assumed_in : List ℕ → List (List ℕ) → Bool → Bool → List LedgerLine → ℕ
assumed_in holders names assumes strict lines =
    if strict then 0 else count_entries holders (map (assumed names assumes) (parts_in lines)) is_held

-- the census of the ledgers of these lines, in the cluster of a first line, where each bookie and each member of an
-- ensemble is among the names
pub record IsCensusBy (names : List (List ℕ)) (strict : Bool) (head : Head) (inventory : Inventory) (lines : List LedgerLine) (c : NamedCensus) : Type 0 where
  pub names_are : c.names ≡ names
  pub named : bookies_named names head.bookies ≡ true
  pub members : list_all (members_named names) lines ≡ true
  pub racks : c.racks ≡ racks_of head.bookies
  pub bookies : c.bookies ≡ map (bookie_of (racks_of head.bookies) head.bookies) names
  pub counts : CountsLedgers (holders (census_bookies c.bookies))
      (map (counted names head.assumes_striped strict) (parts_in lines)) (counts_in c.census)
  pub judged : c.census.judged
      ≡ judged_by inventory (length lines)
      (assumed_in (holders (census_bookies c.bookies)) names head.assumes_striped strict lines)
  pub order : IsInOrder c.census
  pub strict_is : c.is_strict ≡ strict
  pub taken : c.taken ≡ head.taken

-- it is the census of this first line and these lines after it
pub record IsCensusOf (names : List (List ℕ)) (strict : Bool) (first : List ℕ) (lines : List (List ℕ)) (c : NamedCensus) : Type 0 where
  pub inventory : Inventory
  pub is_read : inventory_of (first ∷ lines) ≡ Ok inventory
  pub counted : IsSomeAnd (head_in first) (λ head. IsCensusBy names strict head inventory (ledger_lines lines) c)
