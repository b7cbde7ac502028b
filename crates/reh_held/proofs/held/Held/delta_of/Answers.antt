-- The turns of the bookie's row.
use Rattle.std.proofs.Common.{◌<◌, ◌*◌, ◌∙◌, ℕ, List, sym, ap, subst, arith}
use Rattle.std.specs.Prelude.{All}
use Rattle.reh_types.specs.Sets as set
use Rattle.reh_model.specs.Contents.{copies_of}
use Rattle.reh_held.specs.Tables.{TableValue, row_at}
use Rattle.reh_held.specs.RowTurns.{ArePlaces}
use Rattle.reh_held.specs.Turns.{IsTurning}
use Rattle.reh_held.specs.Values.{HeldValue, words_in}
use Rattle.reh_held.specs.Kept.{contents_of}
use Rattle.reh_held.proofs.HeldLaws.{kept_table, own_table, words-found, words-none, has-found}
use Rattle.reh_held.proofs.TurnedLaws.{turning-from_row, turning-none}
use Rattle.reh_held.proofs.held.Held.delta_of.Goals as goal

pub delta_of-requires-clause-table : goal.delta_of-requires-clause-table
delta_of-requires-clause-table c =
    own_table
    (kept_table c.self.inside.tables.entries c.args.ledger c.in-Some.table.now c.self.invariant.tables
    c.in-Some.ensures.value)

pub delta_of-requires-clause-bookie : goal.delta_of-requires-clause-bookie
delta_of-requires-clause-bookie c =
    let table =
    kept_table c.self.inside.tables.entries c.args.ledger c.in-Some.table.now c.self.invariant.tables
    c.in-Some.ensures.value in
    let within = rw (← c.self.view_is) at c.requires.bookie in
    omega (arith, table.size)

pub delta_of-requires-clause-entries : goal.delta_of-requires-clause-entries
delta_of-requires-clause-entries c =
    let words = words-found c.self.inside.tables.entries c.args.ledger c.in-Some.table.now c.in-Some.ensures.value in
    subst (λ n. All (λ e. e < 64 * n) c.args.entries.now)
    (ap (λ (v : HeldValue). words_in v c.args.ledger) (sym c.self.view_is) ∙ words) c.requires.entries

pub returns-in_ok-turns-in-Some : goal.returns-in_ok-turns-in-Some
returns-in_ok-turns-in-Some c =
    let tables : List (ℕ × TableValue) = c.self.inside.tables.entries in
    let table = kept_table tables c.args.ledger c.in-Some.table.now c.self.invariant.tables c.in-Some.ensures.value in
    let bookie : c.args.bookie < c.self.inside.bookies = rw (← c.self.view_is) at c.requires.bookie in
    let row : List ℕ = row_at c.in-Some.table.now c.args.bookie in
    let words = words-found tables c.args.ledger c.in-Some.table.now c.in-Some.ensures.value in
    let width =
    table.widths c.args.bookie bookie ∙ sym words ∙ ap (λ (v : HeldValue). words_in v c.args.ledger) c.self.view_is in
    let places : ArePlaces (words_in c.args.self.now c.args.ledger) c.in_ok-turns-in-Some.turns.items =
    subst (λ n. ArePlaces n c.in_ok-turns-in-Some.turns.items) width c.in_ok-turns-in-Some.ensures.places in
    subst (λ (v : HeldValue).
    IsTurning (words_in c.args.self.now c.args.ledger) c.args.bookie c.args.ledger v.contents
    (set.union v.contents (copies_of c.args.bookie c.args.ledger c.args.entries.now)) c.in_ok-turns-in-Some.turns.items)
    c.self.view_is
    (turning-from_row (contents_of tables) (words_in c.args.self.now c.args.ledger) c.args.bookie c.args.ledger row
    c.args.entries.now c.in_ok-turns-in-Some.turns.items
    (λ e. has-found tables c.args.bookie c.args.ledger e c.in-Some.table.now c.in-Some.ensures.value) places
    c.in_ok-turns-in-Some.ensures.makes)

pub returns-in-None : goal.returns-in-None
returns-in-None c =
    let none =
    sym (ap (λ (v : HeldValue). words_in v c.args.ledger) c.self.view_is)
    ∙ words-none c.self.inside.tables.entries c.args.ledger c.in-None.ensures.value in
    rw c.new.ensures.items
    (turning-none c.args.self.now.contents (words_in c.args.self.now c.args.ledger) c.args.bookie c.args.ledger
    c.args.entries.now none c.requires.entries)
