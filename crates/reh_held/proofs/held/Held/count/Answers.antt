-- What the bookie holds is what its rows have, table by table.
use Rattle.std.proofs.Common.{◌≡◌, ℕ, List, subst, ◌∙◌, arith}
use Rattle.std.specs.Map.{values_of}
use Rattle.std.proofs.lemmas.Map.Entries.{length-values_of}
use Rattle.reh_model.specs.Contents.{count_held}
use Rattle.reh_held.specs.Tables.{TableValue, IsTable}
use Rattle.reh_held.specs.Values.{HeldValue}
use Rattle.reh_held.proofs.CountHeldLaws.{IsCounting, count-tables, all-tables, counting-none, counting-more}
use Rattle.reh_held.proofs.CountHeldLaws.{len-words_of}
use Rattle.reh_held.proofs.held.Held.count.Goals as goal

pub loop-table-init : goal.loop-table-init
loop-table-init c =
    let tables : List (ℕ × TableValue) = c.self.inside.tables.entries in
    let whole : c.into_iter-table-iterator.result ≡ values_of tables =
    c.into_iter-table-iterator.ensures.into_iter_gives ∙ c.values-table-items.ensures.rest in
    let ordered = c.values-table-items.ensures.ordered in
    let counting =
    counting-none c.self.inside.bookies c.args.bookie _ (values_of tables)
    (omega (arith, length-values_of tables, len-words_of tables ordered, c.self.invariant.few))
    (all-tables (IsTable c.self.inside.bookies) tables ordered c.self.invariant.tables)
    (count-tables c.args.bookie tables ordered) in
    subst (λ (v : HeldValue).
    IsCounting v.bookies c.args.bookie (count_held v.contents c.args.bookie) c.into_iter-table-iterator.result 0)
    c.self.view_is
    (rw whole counting)

pub loop-table-preserved : goal.loop-table-preserved
loop-table-preserved c =
    counting-more c.in-Some.table.now c.next.new.self c.count-count.result c.in-Some.ensures.steps
    c.count-count.ensures.value c.loop-table.invariant
