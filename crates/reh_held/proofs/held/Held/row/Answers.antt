-- The row of the ledger's table.
use Rattle.std.proofs.Common.{◌<◌, ℕ, List, sym, ap, ◌∙◌}
use Rattle.reh_model.specs.Contents.{has}
use Rattle.reh_held.specs.Rows.{is_set}
use Rattle.reh_held.specs.Tables.{TableValue}
use Rattle.reh_held.specs.Values.{HeldValue, words_in}
use Rattle.reh_held.proofs.HeldLaws.{kept_table, words-found, words-none, has-found, has-none, no_entry}
use Rattle.reh_held.proofs.held.Held.row.Goals as goal

pub returns-in-Some-clause-bits : goal.returns-in-Some-clause-bits
returns-in-Some-clause-bits c = λ e.
    ap (λ (row : List ℕ). is_set row e) c.row.ensures
    ∙ sym (has-found c.self.inside.tables.entries c.args.bookie c.args.ledger e c.in-Some.table.now
    c.in-Some.ensures.value)
    ∙ ap (λ (v : HeldValue). has v.contents c.args.bookie c.args.ledger e) c.self.view_is

pub returns-in-Some-clause-words : goal.returns-in-Some-clause-words
returns-in-Some-clause-words c = λ within.
    let tables : List (ℕ × TableValue) = c.self.inside.tables.entries in
    let table = kept_table tables c.args.ledger c.in-Some.table.now c.self.invariant.tables c.in-Some.ensures.value in
    let there : c.args.bookie < c.self.inside.bookies = rw (← c.self.view_is) at within in
    rw c.row.ensures
    (table.widths c.args.bookie there
    ∙ sym (words-found tables c.args.ledger c.in-Some.table.now c.in-Some.ensures.value)
    ∙ ap (λ (v : HeldValue). words_in v c.args.ledger) c.self.view_is)

pub returns-in-None-clause-bits : goal.returns-in-None-clause-bits
returns-in-None-clause-bits c = λ e.
    no_entry e ∙ sym (has-none c.self.inside.tables.entries c.args.bookie c.args.ledger e c.in-None.ensures.value)
    ∙ ap (λ (v : HeldValue). has v.contents c.args.bookie c.args.ledger e) c.self.view_is

pub returns-in-None-clause-words : goal.returns-in-None-clause-words
returns-in-None-clause-words c = λ within.
    sym (words-none c.self.inside.tables.entries c.args.ledger c.in-None.ensures.value)
    ∙ ap (λ (v : HeldValue). words_in v c.args.ledger) c.self.view_is
