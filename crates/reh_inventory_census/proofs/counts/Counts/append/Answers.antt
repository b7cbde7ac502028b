-- The lines of further ledgers are the last ones.
use Rattle.std.proofs.Common.{◌≡◌, ◌++◌, Result, Ok, Err, List, sym, subst}
use Rattle.std.specs.Prelude.{OnOk, if◌then◌else◌}
use Rattle.std.specs.Result.{is_ok}
use Rattle.reh_inventory_census.specs.Counting.{Counts, CountsLedgers, counts_by}
use Rattle.reh_inventory_census.proofs.CounterLaws.{counts-more}
use Rattle.reh_inventory_census.proofs.counts.Counts.append.Goals as goal

-- what follows of items that a call gives where it succeeds, and whose result is returned as it is
on_ok_items : {X Y A : Type 0} {P : Type 0} (r : Result X Y) (items more same : List A) → (items ≡ more → P)
    → items ≡ (if is_ok r then more else same) → OnOk r P
on_ok_items (Ok x) items more same go is = go is
on_ok_items (Err e) items more same go is = tt

pub returns : goal.returns
returns c =
    on_ok_items c.append-3.result _ _ _
    (λ last. λ holders ledgers more own others.
    let here = c.self.inside in
    let there = c.other.inside in
    let one : Counts = counts_by here.entries.items here.tails.items here.ensembles.items in
    let other : Counts = counts_by there.entries.items there.tails.items there.ensembles.items in
    let both = counts-more holders ledgers more one other
    (subst (λ (counts : Counts). CountsLedgers holders ledgers counts) (sym c.self.view_is) own)
    (subst (λ (counts : Counts). CountsLedgers holders more counts) (sym c.other.view_is) others) in
    subst (λ (counts : Counts). CountsLedgers holders (ledgers ++ more) counts)
    (λ i. counts_by (sym c.in_ok-append.ensures.items i) (sym c.in_ok-append-2.ensures.items i) (sym last i))
    both)
    c.append-3.ensures.items
