-- An inventory that is read once more, from its first line to its last.
use Rattle.std.proofs.Common.{◌≡◌, ◌++◌, [], ℕ, Bool, List, ap, refl, sym, subst, map, append-nil}
use Rattle.std.specs.Prelude.{Option, None, Some}
use Rattle.std.specs.Option.{IsSomeAnd}
use Rattle.reh_against.specs.declared.stops.Stop.{Stop}
use Rattle.reh_against.specs.declared.worst.Worst.{Worst}
use Rattle.reh_against.specs.Weighed.{WeighsBy}
use Rattle.reh_census.specs.Ledgers.{Ledger}
use Rattle.reh_inventory.specs.declared.heads.Head.{Head}
use Rattle.reh_inventory_against.specs.declared.rereading.Rereading.{Rereading}
use Rattle.reh_inventory_against.specs.Reread.{HasWeighed, IsRereading, IsWeighing, counts_by, id_of, parts_by}
use Rattle.reh_inventory_census.specs.declared.ledgers.InventoryLedgers.{InventoryLedgers}
use Rattle.reh_inventory_census.specs.Census.{head_in, ledger_lines}

-- no line came but the first
pub weighs-first : (stop : Stop) (names : List (List ℕ)) (strict : Bool) (ids : List ℕ) (ledgers : List (List Ledger))
    (first : List ℕ) (again : Rereading) (worst : Worst) → IsRereading names strict first [] again
    → WeighsBy stop ids ledgers worst
    → IsWeighing stop names strict ids ledgers first [] again worst
weighs-first stop names strict ids ledgers first again worst is was = record {
  reread = is;
  weighed =
      subst (λ (xs : List ℕ). WeighsBy stop xs (ledgers ++ []) worst) (sym (append-nil ids))
      (subst (λ (gs : List (List Ledger)). WeighsBy stop ids gs worst) (sym (append-nil ledgers)) was);
}

-- all lines came
pub weighed-all : (stop : Stop) (names : List (List ℕ)) (strict : Bool) (kept ids : List ℕ) (ledgers : List (List Ledger))
    (first : List ℕ) (lines : List (List ℕ)) (again : Rereading) (worst : Worst) → again.inventory.ids ≡ kept
    → IsWeighing stop names strict ids ledgers first lines again worst
    → HasWeighed stop names strict kept ids ledgers worst
weighed-all stop names strict kept ids ledgers first lines again worst same was = record {
  more_ids = map id_of (ledger_lines lines);
  more = map (parts_by again.ledgers) (ledger_lines lines);
  reread = record {
    first = first;
    lines = lines;
    inventory = again.inventory;
    is_read = was.reread.inventory;
    same = same;
    ids_are = refl;
    ledgers_are = on (head_in first) was.reread.head;
  };
  weighed = was.weighed;
}
  where
    on : (o : Option Head) → IsSomeAnd o (λ head. again.ledgers ≡ counts_by names head.assumes_striped strict)
        → IsSomeAnd o
        (λ head. map (parts_by again.ledgers) (ledger_lines lines)
        ≡ map (parts_by (counts_by names head.assumes_striped strict)) (ledger_lines lines))
    on (Some head) is = ap (λ (of : InventoryLedgers). map (parts_by of) (ledger_lines lines)) is
    on None never = never
