-- A line without a ledger leaves the ledgers that were counted; else there is one more.
use Rattle.std.proofs.Common.{rules, ◌≡◌, ◌∙◌, ◌++◌, ◌∷◌, [], Ok, None, Some, List, ap, refl, sym, subst}
use Rattle.std.specs.Prelude.{Result, IfOk}
use Rattle.std.specs.Option.{option_map_or}
use Rattle.std.proofs.lemmas.List.{append-nil}
use Rattle.std.proofs.lemmas.List.Sums.{fold-append}
use Rattle.std.proofs.lemmas.Grind.{flat_map-append}
use Rattle.reh_inventory.specs.declared.ledgers.LedgerLine.{LedgerLine}
use Rattle.reh_inventory.specs.Inventories.{added_bytes, added_ledger, added_said, and_bytes, ledger_in, ledger_said, no_lines}
use Rattle.reh_inventory_census.specs.declared.census.CountedLine.{CountedLine}
use Rattle.reh_inventory_census.specs.declared.counter.LedgerCount.{LedgerCount}
use Rattle.reh_inventory_census.specs.declared.faults.CountFault.{CountFault}
use Rattle.reh_inventory_census.specs.Census.{IsCountedLine, IsLedgerLine, IsOtherLine, head_in, ledger_line, ledger_lines}
use Rattle.reh_inventory_census.specs.Counters.{CountsLines, IsLedgerCount}
use Rattle.reh_inventory_census.proofs.CensusLaws.{same-cluster}
use Rattle.reh_inventory_census.proofs.census.InventoryCount.add.Goals as goal

pub returns-in_ok-add_line-in-Other-clause-counted : goal.returns-in_ok-add_line-in-Other-clause-counted
returns-in_ok-add_line-in-Other-clause-counted c = λ names strict first lines was bytes is.
    let inventory = c.args.self.now.inventory in
    let other : IsOtherLine bytes c.in-Other.line =
    subst (λ (line : CountedLine). IsCountedLine c.args.self.now bytes line) c.in-Other.is is in
    let none : ledger_in bytes ≡ None = ap ledger_said other.says ∙ other.no_ledger in
    let added : added_bytes inventory bytes ≡ Ok c.add_line.new.self =
    ap (added_said inventory) other.says ∙ c.in_ok-add_line-in-Other.ensures.added in
    let same : ledger_lines (lines ++ bytes ∷ []) ≡ ledger_lines lines =
    flat_map-append ledger_line lines (bytes ∷ [])
    ∙ (λ i. ledger_lines lines ++ (option_map_or (λ (ledger : LedgerLine). ledger ∷ []) (none i) [] ++ []))
    ∙ append-nil (ledger_lines lines) in
    record {
      inventory =
          fold-append and_bytes (Ok no_lines) (first ∷ lines) (bytes ∷ [])
          ∙ ap (λ r. and_bytes r bytes) was.inventory
          ∙ added;
      cluster = search (rules, was.cluster);
      strict_is = was.strict_is;
      ledgers = subst (λ (ledgers : List LedgerLine). CountsLines ledgers c.args.self.now.counter) (sym same) was.ledgers;
    }

pub returns-in_ok-add-in-Ledger-clause-counted : goal.returns-in_ok-add-in-Ledger-clause-counted
returns-in_ok-add-in-Ledger-clause-counted c = λ names strict first lines was bytes is.
    let count = c.args.self.now in
    let line : IsLedgerLine count.counter bytes c.in-Ledger.id c.in-Ledger.count =
    subst (λ (line : CountedLine). IsCountedLine count bytes line) c.in-Ledger.is is in
    let counted : IsLedgerCount count.counter line.ledger c.in_ok-count-in-Ledger.field-0 =
    subst (λ (r : Result LedgerCount CountFault). IfOk r (IsLedgerCount count.counter line.ledger))
    c.in_ok-count-in-Ledger.was line.counted in
    let some : ledger_in bytes ≡ Some line.ledger = ap ledger_said line.says in
    let added : added_bytes count.inventory bytes ≡ Ok c.add_ledger.new.self =
    ap (added_said count.inventory) line.says
    ∙ ap (added_ledger count.inventory) line.has_id
    ∙ c.in_ok-add_ledger-in-Ledger.ensures.added in
    let more : ledger_lines (lines ++ bytes ∷ []) ≡ ledger_lines lines ++ line.ledger ∷ [] =
    flat_map-append ledger_line lines (bytes ∷ [])
    ∙ (λ i. ledger_lines lines ++ (option_map_or (λ (ledger : LedgerLine). ledger ∷ []) (some i) [] ++ [])) in
    let fixed = c.in_ok-add-in-Ledger.ensures.fixed in
    record {
      inventory =
          fold-append and_bytes (Ok no_lines) (first ∷ lines) (bytes ∷ [])
          ∙ ap (λ r. and_bytes r bytes) was.inventory
          ∙ added;
      cluster = same-cluster names (head_in first) count _ fixed refl refl was.cluster;
      strict_is = sym fixed.strict ∙ was.strict_is;
      ledgers =
          subst (λ (ledgers : List LedgerLine). CountsLines ledgers c.add.new.self) (sym more)
          (c.in_ok-add-in-Ledger.ensures.added (ledger_lines lines) line.ledger was.ledgers counted);
    }
