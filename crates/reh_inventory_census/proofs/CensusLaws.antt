-- The census of an inventory's lines.
use Rattle.std.proofs.Common.{◌≡◌, ℕ, Bool, true, false, List, [], map, refl, sym, ap, ◌∙◌, subst, if◌then◌else◌}
use Rattle.std.specs.Prelude.{Option, None, Some, Ok, option_map, string_bytes}
use Rattle.std.specs.List.{list_all}
use Rattle.std.specs.Option.{IsSomeAnd}
use Rattle.reh_census.specs.Counting.{Census}
use Rattle.reh_census.specs.Ledgers.{Ledger}
use Rattle.reh_census.specs.Order.{IsInOrder}
use Rattle.reh_census_file.specs.Values.{named_by}
use Rattle.reh_inventory.specs.declared.heads.Head.{Head}
use Rattle.reh_inventory.specs.declared.ledgers.LedgerLine.{LedgerLine}
use Rattle.reh_inventory.specs.declared.lines.Line.TheVariants as line
use Rattle.reh_inventory.specs.Inventories.{added, added_said, no_lines}
use Rattle.reh_inventory.specs.Lines.{located_line_of}
use Rattle.reh_inventory_census.specs.declared.census.InventoryCount.{InventoryCount}
use Rattle.reh_inventory_census.specs.declared.counter.Counter.{Counter}
use Rattle.reh_inventory_census.specs.Census.{IsCensusBy, IsCensusOf, IsCluster, IsCount, assumed_in, head_in, head_said, judged_by, ledger_lines}
use Rattle.reh_inventory_census.specs.Counted.{counted}
use Rattle.reh_inventory_census.specs.Counters.{CountsLines, IsOfSame, holders_of}
use Rattle.reh_inventory_census.specs.Counting.{CountsLedgers, counts_in}
use Rattle.reh_inventory_census.specs.Numbers.{members_named}
use Rattle.reh_inventory_census.specs.Parts.{parts_in}

no-ledger : (strict : Bool) → ◌≡◌ {A = ℕ} 0 (if strict then 0 else 0)
no-ledger true = refl
no-ledger false = refl

-- a counter that has counted no ledger
pub nothing-counted : (c : Counter) → CountsLedgers (holders_of c) [] c.counts → c.ledgers ≡ 0 → c.assumed ≡ 0
    → CountsLines [] c
nothing-counted c none ledgers assumed = record {
  parts = record { counts = none; assumed_by = assumed ∙ no-ledger c.is_strict };
  ledgers = ledgers;
  named = refl;
}

-- nothing is counted but a first line
pub begun : (names : List (List ℕ)) (strict : Bool) (first : List ℕ) (head : Head) (count : InventoryCount)
    → located_line_of first ≡ Ok (line.Head head) → added no_lines (line.Head head) ≡ Ok count.inventory
    → IsCluster names head count → count.counter.is_strict ≡ strict → CountsLines [] count.counter
    → IsCount names strict first [] count
begun names strict first head count said is cluster same none =
    let P : Option Head → Type 0 = λ o. IsSomeAnd o (λ head. IsCluster names head count) in
    record {
      inventory = ap (added_said no_lines) said ∙ is;
      cluster = subst P (sym (ap head_said said)) cluster;
      strict_is = same;
      ledgers = none;
    }

-- in the same cluster others were counted
pub same-cluster : (names : List (List ℕ)) (o : Option Head) (one other : InventoryCount) → IsOfSame one.counter other.counter
    → one.racks ≡ other.racks → one.taken ≡ other.taken
    → IsSomeAnd o (λ head. IsCluster names head one) → IsSomeAnd o (λ head. IsCluster names head other)
same-cluster names (Some head) one other same racks taken was = record {
  names_are = sym same.names ∙ was.names_are;
  named = was.named;
  racks = sym racks ∙ was.racks;
  bookies = sym same.bookies ∙ was.bookies;
  assumes = sym same.assumes ∙ was.assumes;
  taken = sym (ap (λ taken. option_map (λ s. string_bytes s) taken) taken) ∙ was.taken;
}
same-cluster names None one other same racks taken was = was

-- the census of what was counted
pub finished : (names : List (List ℕ)) (strict : Bool) (first : List ℕ) (lines : List (List ℕ)) (count : InventoryCount)
    (census : Census)
    → ((holders : List ℕ) (ledgers : List Ledger) → CountsLedgers holders ledgers count.counter.counts
    → CountsLedgers holders ledgers (counts_in census))
    → IsInOrder census
    → census.judged ≡ judged_by count.inventory count.counter.ledgers count.counter.assumed
    → IsCount names strict first lines count
    → IsCensusOf names strict first lines
    (named_by count.counter.names count.racks count.counter.bookies census count.counter.is_strict
    (option_map (λ s. string_bytes s) count.taken))
finished names strict first lines count census counts order judged was = record {
  inventory = count.inventory;
  is_read = was.inventory;
  counted = on (head_in first) was.cluster;
}
  where
    ledgers : List LedgerLine
    ledgers = ledger_lines lines

    who : List ℕ
    who = holders_of count.counter

    on : (o : Option Head) → IsSomeAnd o (λ head. IsCluster names head count)
        → IsSomeAnd o
        (λ head. IsCensusBy names strict head count.inventory ledgers
        (named_by count.counter.names count.racks count.counter.bookies census count.counter.is_strict
        (option_map (λ s. string_bytes s) count.taken)))
    on (Some head) cluster =
        let P : List Ledger → Type 0 = λ gs. CountsLedgers who gs (counts_in census) in
        record {
          names_are = cluster.names_are;
          named = cluster.named;
          members = ap (λ names. list_all (members_named names) ledgers) (sym cluster.names_are) ∙ was.ledgers.named;
          racks = cluster.racks;
          bookies = cluster.bookies;
          counts = subst P
              (λ i. map (counted (cluster.names_are i) (cluster.assumes i) (was.strict_is i)) (parts_in ledgers))
              (counts who _ was.ledgers.parts.counts);
          judged = judged
              ∙ (λ i. judged_by count.inventory (was.ledgers.ledgers i)
              ((was.ledgers.parts.assumed_by
              ∙ (λ j. assumed_in who (cluster.names_are j) (cluster.assumes j) (was.strict_is j) ledgers)) i));
          order = order;
          strict_is = was.strict_is;
          taken = cluster.taken;
        }
    on None cluster = cluster
