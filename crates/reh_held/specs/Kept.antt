-- What the tables of `Held` stand for.
use Rattle.std.specs.Prelude.{ℕ, ◌+◌, ◌≤◌, List, [], ◌∷◌, ◌++◌, map, slice_index_or, Option, None, Some, IfSome}
use Rattle.std.specs.BTreeMap.{is_at}
use Rattle.std.specs.Map.{lookup, keys_of}
use Rattle.std.specs.Ordering.{nat_cmp}
use Rattle.std.specs.FinMap as finite
use Rattle.std.specs.FinMap.{FinMap}
use Rattle.reh_types.specs.Sets as set
use Rattle.reh_model.specs.Contents.{Contents}
use Rattle.reh_held.specs.Rows.{entries_in}
use Rattle.reh_held.specs.Tables.{TableValue, IsTable}
use Rattle.reh_held.specs.Values.{HeldValue}
use Rattle.reh_held.specs.declared.held.Held.TheInside.{Inside}
use Rattle.reh_types.specs.declared.limits.TheConstants.{MAX_LEDGERS}

-- the ledger's table, if it has one
abbrev pub table_at : List (ℕ × TableValue) → ℕ → Option TableValue
table_at tables ledger = lookup (is_at (nat_cmp ledger)) tables

abbrev pub rows_in : Option TableValue → List (List ℕ)
rows_in None = []
rows_in (Some table) = table.rows

-- the bookie's row of the ledger; one with no words where there is none
abbrev pub row_of : List (ℕ × TableValue) → ℕ → ℕ → List ℕ
row_of tables bookie ledger = slice_index_or (rows_in (table_at tables ledger)) bookie []

-- what the rows of a ledger hold, those of the bookies from this one on
abbrev pub copies_from : ℕ → ℕ → List (List ℕ) → List (ℕ × ℕ × ℕ)
copies_from ledger bookie [] = []
copies_from ledger bookie (row ∷ rows) =
    map (λ e. (bookie, ledger, e)) (entries_in row) ++ copies_from ledger (bookie + 1) rows

-- what the rows of some ledgers hold
abbrev pub copies_in : (ℕ → List (List ℕ)) → List ℕ → List (ℕ × ℕ × ℕ)
copies_in rows [] = []
copies_in rows (ledger ∷ ledgers) = copies_from ledger 0 (rows ledger) ++ copies_in rows ledgers

-- each bookie holds the entries whose bits are set in its rows
abbrev pub contents_of : List (ℕ × TableValue) → Contents
contents_of tables = set.from_list (copies_in (λ ledger. rows_in (table_at tables ledger)) (keys_of tables))

-- the width of each table
abbrev pub words_of : List (ℕ × TableValue) → FinMap nat_cmp ℕ
words_of tables = finite.from_entries (map (λ t. (t.0, t.1.width)) tables)

abbrev pub held_of : Inside → HeldValue
held_of a = record { contents = contents_of a.tables.entries; bookies = a.bookies; words = words_of a.tables.entries }

-- each table has a row for each bookie, and there are no more tables than ledgers that there can be
pub record IsKept (a : Inside) : Type 0 where
  pub few : finite.len (words_of a.tables.entries) ≤ MAX_LEDGERS
  pub tables : (ledger : ℕ) → IfSome (table_at a.tables.entries ledger) (IsTable a.bookies)
