-- The greater of the rows' greatest entries.
use Rattle.std.proofs.Common.{◌≡◌, ◌∙◌, ap, subst, arith, List, ℕ, take, []}
use Rattle.std.specs.List.{list_any}
use Rattle.std.proofs.lemmas.List.{take_all, get_or_read}
use Rattle.reh_held.specs.Rows.{is_set, IsGreatest}
use Rattle.reh_held.proofs.GreatestLaws.{greatest-more}
use Rattle.reh_held.proofs.tables.Table.greatest.Goals as goal

pub loop-row-preserved : goal.loop-row-preserved
loop-row-preserved c =
    let rows : List (List ℕ) = c.deref-row-items.result.now in
    let i : ℕ = c.loop-row.row-index in
    let read = get_or_read rows i c.row-item.result c.loop-row-test.true c.row-item.is [] in
    greatest-more rows i c.row-item.result c.greater-greatest.result c.loop-row-test.true read
    (c.greater-greatest.ensures (λ e. list_any (λ row. is_set row e) (take i rows)) (is_set c.row-item.result)
    c.loop-row.invariant c.greatest.ensures)

pub returns : goal.returns
returns c =
    let rows : List (List ℕ) = c.deref-row-items.result.now in
    let all : take c.loop-row.row-index rows ≡ rows = take_all c.loop-row.row-index rows (omega arith) in
    let same : take c.loop-row.row-index rows ≡ c.args.self.now.rows =
    all ∙ c.deref-row-items.ensures.value ∙ ap (λ v. v.rows) c.self.view_is in
    subst (λ (rs : List (List ℕ)). IsGreatest (λ e. list_any (λ row. is_set row e) rs) c.loop-row.greatest) same
    c.loop-row.invariant
