-- The numbers of bookies, and of the members of ensembles: their places among the names.
use Rattle.std.specs.Prelude.{ℕ, Bool, List, fold, position}
use Rattle.std.specs.List.{list_all}
use Rattle.std.specs.Option.{is_some}
use Rattle.std.specs.Str.{bytes_eq}
use Rattle.reh_census_file.specs.Names.{with_name}
use Rattle.reh_inventory.specs.declared.heads.Bookie.{Bookie}
use Rattle.reh_inventory.specs.declared.heads.Head.{Head}
use Rattle.reh_inventory.specs.declared.ledgers.Fragment.{Fragment}
use Rattle.reh_inventory.specs.declared.ledgers.LedgerLine.{LedgerLine}
use Rattle.reh_inventory.specs.declared.lines.Line.{Line}
use Rattle.reh_inventory.specs.declared.lines.Line.TheVariants as line

abbrev pub with_bookie : List (List ℕ) → Bookie → List (List ℕ)
with_bookie names bookie = with_name names bookie.name

-- the names with those of the first line's bookies that weren't there, each as the last
abbrev pub with_bookies : List (List ℕ) → Head → List (List ℕ)
with_bookies names head = fold with_bookie names head.bookies

abbrev pub with_ensemble : List (List ℕ) → Fragment → List (List ℕ)
with_ensemble names fragment = fold with_name names fragment.ensemble

-- the names with those of the ledger's members that weren't there, each as the last
abbrev pub with_members : List (List ℕ) → LedgerLine → List (List ℕ)
with_members names line = fold with_ensemble names line.fragments

-- the names with those of the bookies that a line names, as bookies or as members of ensembles
abbrev pub with_line : List (List ℕ) → Line → List (List ℕ)
with_line names (line.Head head) = with_bookies names head
with_line names (line.Ledger ledger) = with_members names ledger
with_line names (line.Unread id) = names
with_line names (line.End ledgers) = names

-- Bookies that have numbers

abbrev pub is_named : List (List ℕ) → List ℕ → Bool
is_named names name = is_some (position (bytes_eq name) names)

abbrev pub bookie_named : List (List ℕ) → Bookie → Bool
bookie_named names bookie = is_named names bookie.name

abbrev pub bookies_named : List (List ℕ) → List Bookie → Bool
bookies_named names bookies = list_all (bookie_named names) bookies

abbrev pub ensemble_named : List (List ℕ) → Fragment → Bool
ensemble_named names fragment = list_all (is_named names) fragment.ensemble

-- whether each member of the ledger's ensembles has one
abbrev pub members_named : List (List ℕ) → LedgerLine → Bool
members_named names line = list_all (ensemble_named names) line.fragments
