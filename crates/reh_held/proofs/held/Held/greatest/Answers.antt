-- The greatest entry whose bit is set in a row of the ledger.
use Rattle.std.proofs.Common.{ℕ, List, false, refl, sym, ap, ◌∙◌}
use Rattle.std.specs.List.{list_any}
use Rattle.std.specs.declared.option.Option.TheVariants.{None}
use Rattle.reh_model.specs.Contents.{greatest_held}
use Rattle.reh_held.specs.Rows.{is_set}
use Rattle.reh_held.specs.Tables.{TableValue}
use Rattle.reh_held.specs.Values.{HeldValue}
use Rattle.reh_held.specs.Kept.{contents_of}
use Rattle.reh_held.proofs.HeldLaws.{kept_table, own_table, has-found, has-none}
use Rattle.reh_held.proofs.GreatestHeldLaws.{greatest_held-is, any_at, in_some_row}
use Rattle.reh_held.proofs.held.Held.greatest.Goals as goal

pub greatest-requires : goal.greatest-requires
greatest-requires c =
    own_table
    (kept_table c.self.inside.tables.entries c.args.ledger c.in-Some.table.now c.self.invariant.tables
    c.in-Some.ensures.value)

pub returns-in-Some : goal.returns-in-Some
returns-in-Some c =
    let tables : List (ℕ × TableValue) = c.self.inside.tables.entries in
    let rows : List (List ℕ) = c.in-Some.table.now.rows in
    let found = c.in-Some.ensures.value in
    greatest_held-is (contents_of tables) c.args.ledger (λ e. list_any (λ row. is_set row e) rows) c.greatest.result
    c.greatest.ensures
    (λ b e held. any_at rows b e (sym (has-found tables b c.args.ledger e c.in-Some.table.now found) ∙ held))
    (λ e passes.
    let w = in_some_row rows e passes in
    (w.bookie, has-found tables w.bookie c.args.ledger e c.in-Some.table.now found ∙ w.held))
    ∙ ap (λ (v : HeldValue). greatest_held v.contents c.args.ledger) c.self.view_is

pub returns-in-None : goal.returns-in-None
returns-in-None c =
    let tables : List (ℕ × TableValue) = c.self.inside.tables.entries in
    greatest_held-is (contents_of tables) c.args.ledger (λ e. false) None (λ e. refl)
    (λ b e held. sym (has-none tables b c.args.ledger e c.in-None.ensures.value) ∙ held) (λ e passes. cc)
    ∙ ap (λ (v : HeldValue). greatest_held v.contents c.args.ledger) c.self.view_is
