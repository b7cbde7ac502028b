-- The census of what was counted, with its names, is made of the counter's.
use Rattle.std.proofs.Common.{◌≡◌, ◌∙◌, List, ℕ, ap, sym, subst}
use Rattle.std.specs.Prelude.{option_map, string_bytes}
use Rattle.reh_census.specs.Counting.{Census}
use Rattle.reh_census.specs.Ledgers.{Ledger}
use Rattle.reh_census.specs.Order.{IsInOrder}
use Rattle.reh_census_file.specs.Values.{NamedCensus, named_by}
use Rattle.reh_inventory_census.specs.Census.{IsCensusOf}
use Rattle.reh_inventory_census.specs.Counting.{CountsLedgers, counts_in}
use Rattle.reh_inventory_census.proofs.CensusLaws.{finished}
use Rattle.reh_inventory_census.proofs.census.InventoryCount.finish.Goals as goal

pub returns : goal.returns
returns c = λ names strict first lines was.
    let count = c.args.self in
    let counter = count.counter in
    let made = c.in_ok-census.ensures in
    let same : c.of.result.census ≡ c.in_ok-census.census = ap (λ (named : NamedCensus). named.census) c.of.ensures in
    let named = c.of.ensures
    ∙ ap (λ (census : Census).
    named_by counter.names count.racks counter.bookies census counter.is_strict (option_map string_bytes count.taken))
    (sym same) in
    let Counts : Census → Type 0 = λ census. (holders : List ℕ) (ledgers : List Ledger)
    → CountsLedgers holders ledgers counter.counts → CountsLedgers holders ledgers (counts_in census) in
    let InOrder : Census → Type 0 = λ census. IsInOrder census in
    let P : NamedCensus → Type 0 = λ census. IsCensusOf names strict first lines census in
    subst P (sym named)
    (finished names strict first lines count c.of.result.census (subst Counts (sym same) made.counts)
    (subst InOrder (sym same) made.order)
    (ap (λ (census : Census). census.judged) same ∙ made.judged ∙ c.in_ok-judged.ensures.judged) was)
