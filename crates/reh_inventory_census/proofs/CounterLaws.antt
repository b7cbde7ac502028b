-- What was counted of ledgers, and of further ones.
use Rattle.std.proofs.Common.{◌≡◌, ℕ, ◌+◌, Bool, true, false, List, ◌++◌, cond, map, refl, sym, ap, ◌∙◌, subst, if◌then◌else◌}
use Rattle.std.specs.Prelude.{count_by}
use Rattle.std.specs.List.{list_any}
use Rattle.std.proofs.lemmas.List.{map-append}
use Rattle.std.proofs.lemmas.List.Sums.{sum_by-append}
use Rattle.reh_census.specs.declared.censuses.CountedEnsemble.{CountedEnsemble}
use Rattle.reh_census.specs.declared.censuses.CountedTail.{CountedTail}
use Rattle.reh_census.specs.declared.classes.Counted.{Counted}
use Rattle.reh_census.specs.Copies.{in_order}
use Rattle.reh_census.specs.Counting.{count_entries, count_ledger, tail_of}
use Rattle.reh_census.specs.Ledgers.{Ledger}
use Rattle.reh_inventory.specs.declared.ledgers.LedgerLine.{LedgerLine}
use Rattle.reh_census.specs.Bookies.{bookies_of, holders}
use Rattle.reh_inventory_census.specs.declared.counter.Counter.{Counter}
use Rattle.reh_inventory_census.specs.declared.counter.LedgerCount.{LedgerCount}
use Rattle.reh_inventory_census.specs.Counted.{assumed, counted}
use Rattle.reh_inventory_census.specs.Counters.{CountsParts, IsLedgerCount, IsOfSame, holders_of, with_count}
use Rattle.reh_inventory_census.specs.Empties.{holds_though_empty}
use Rattle.reh_inventory_census.specs.Numbers.{members_named}
use Rattle.reh_inventory_census.specs.Parts.{parts_of}
use Rattle.reh_inventory_census.specs.Counting.{Counts, CountsLedgers, counts_by, is_held}

pub counts-more : (holders : List ℕ) (ledgers further : List Ledger) (one other : Counts)
    → CountsLedgers holders ledgers one → CountsLedgers holders further other
    → CountsLedgers holders (ledgers ++ further)
    (counts_by (one.entries ++ other.entries) (one.tails ++ other.tails) (one.ensembles ++ other.ensembles))
counts-more holders ledgers further one other own more = record {
  entries = λ test.
      sum_by-append (λ (c : Counted). cond (test c.class) c.count 0) one.entries other.entries
      ∙ (λ i. own.entries test i + more.entries test i)
      ∙ sym (sum_by-append (count_ledger holders test) ledgers further);
  tails = λ test.
      sum_by-append (λ (t : CountedTail). cond (test t.tail) t.count 0) one.tails other.tails
      ∙ (λ i. own.tails test i + more.tails test i)
      ∙ sym (sum_by-append (λ (g : Ledger). count_by test (tail_of g)) ledgers further);
  ensembles = λ test.
      sum_by-append (λ (e : CountedEnsemble). cond (test e.members) e.count 0) one.ensembles other.ensembles
      ∙ (λ i. own.ensembles test i + more.ensembles test i)
      ∙ sym
      (sum_by-append (λ (g : Ledger). count_by (λ fragment. test (in_order fragment.ensemble)) g.fragments) ledgers further);
}

sum-if : (strict : Bool) (a b both : ℕ) → both ≡ a + b
    → (if strict then 0 else a) + (if strict then 0 else b) ≡ (if strict then 0 else both)
sum-if true a b both e = refl
sum-if false a b both e = sym e

-- a counter with further parts
pub parts-more : (parts further : List LedgerLine) (one : Counter) (more : LedgerCount) (counts : Counts) (total : ℕ)
    → ((holders : List ℕ) (ledgers others : List Ledger) → CountsLedgers holders ledgers one.counts
    → CountsLedgers holders others more.counts → CountsLedgers holders (ledgers ++ others) counts)
    → total ≡ one.assumed + more.assumed
    → CountsParts parts one → CountsParts further (with_count one more)
    → CountsParts (parts ++ further) (record one { counts = counts; assumed = total })
parts-more parts further one more counts total joined is old new =
    let make = counted one.names one.assumes_striped one.is_strict in
    let assume = assumed one.names one.assumes_striped in
    let who = holders_of one in
    let P : List Ledger → Type 0 = λ gs. CountsLedgers who gs counts in
    record {
      counts = subst P (sym (map-append make parts further))
          (joined who (map make parts) (map make further) old.counts new.counts);
      assumed_by = is ∙ (λ i. old.assumed_by i + new.assumed_by i)
          ∙ sum-if one.is_strict _ _ _
          (ap (λ (gs : List Ledger). count_entries who gs is_held) (map-append assume parts further)
          ∙ sum_by-append (count_ledger who is_held) (map assume parts) (map assume further));
    }

-- what one counter counted of a ledger, another one counts alike in the same cluster
pub same-count : (c d : Counter) (line : LedgerLine) (count : LedgerCount) → IsOfSame c d → IsLedgerCount c line count
    → IsLedgerCount d line count
same-count c d line count same was =
    let P : List ℕ × List Ledger → Type 0 = λ x. CountsLedgers x.0 x.1 count.counts in
    record {
      parts = record {
        counts = subst P
            (λ i. (
              holders (bookies_of (same.bookies i)),
              map (counted (same.names i) (same.assumes i) (same.strict i)) (parts_of line),
            ))
            was.parts.counts;
        assumed_by = was.parts.assumed_by
            ∙ (λ i. if same.strict i then 0
            else count_entries (holders (bookies_of (same.bookies i)))
            (map (assumed (same.names i) (same.assumes i)) (parts_of line)) is_held);
      };
      named = sym (λ i. members_named (same.names i) line) ∙ was.named;
      empties = sym (λ i. list_any (holds_though_empty (same.names i) (same.bookies i)) line.contents) ∙ was.empties;
    }
