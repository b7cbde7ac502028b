-- What the ledger's table has, or nothing where it has none.
use Rattle.std.proofs.Common.{◌≡◌, false, ℕ, List, sym, ap, subst, ◌∙◌, arith}
use Rattle.std.specs.Result.{IfOk}
use Rattle.std.proofs.lemmas.Result.{IfOk-weaker}
use Rattle.reh_model.specs.Contents.{has}
use Rattle.reh_held.specs.Rows.{is_set}
use Rattle.reh_held.specs.Tables.{TableValue, row_at, IsTable}
use Rattle.reh_held.specs.Values.{HeldValue}
use Rattle.reh_held.proofs.HeldLaws.{kept_table, own_table, words-found, has-found, has-none}
use Rattle.reh_held.proofs.held.Held.longer_table.Goals as goal

pub longer-requires-clause-table : goal.longer-requires-clause-table
longer-requires-clause-table c =
    own_table
    (kept_table c.self.inside.tables.entries c.args.ledger c.in-Some.table.now c.self.invariant.tables
    c.in-Some.ensures.value)

pub longer-requires-clause-longer : goal.longer-requires-clause-longer
longer-requires-clause-longer c =
    let within = rw (← c.self.view_is) at c.requires.longer in
    omega (arith, words-found c.self.inside.tables.entries c.args.ledger c.in-Some.table.now c.in-Some.ensures.value)

pub returns-in-Some-clause-table : goal.returns-in-Some-clause-table
returns-in-Some-clause-table c =
    let table =
    kept_table c.self.inside.tables.entries c.args.ledger c.in-Some.table.now c.self.invariant.tables
    c.in-Some.ensures.value in
    subst (λ n. IfOk c.longer.result (IsTable n)) (table.size ∙ ap (λ (v : HeldValue). v.bookies) c.self.view_is)
    c.longer.ensures.table

pub returns-in-Some-clause-same : goal.returns-in-Some-clause-same
returns-in-Some-clause-same c =
    let tables : List (ℕ × TableValue) = c.self.inside.tables.entries in
    let before : TableValue → Type 0 =
    λ table. (b e : ℕ) → is_set (row_at table b) e ≡ is_set (row_at c.in-Some.table.now b) e in
    let after : TableValue → Type 0 =
    λ table. (b e : ℕ) → is_set (row_at table b) e ≡ has c.args.self.now.contents b c.args.ledger e in
    IfOk-weaker c.longer.result before after (λ table same b e.
    same b e ∙ sym (has-found tables b c.args.ledger e c.in-Some.table.now c.in-Some.ensures.value)
    ∙ ap (λ (v : HeldValue). has v.contents b c.args.ledger e) c.self.view_is)
    c.longer.ensures.same

pub returns-in-None-clause-same : goal.returns-in-None-clause-same
returns-in-None-clause-same c =
    let tables : List (ℕ × TableValue) = c.self.inside.tables.entries in
    let before : TableValue → Type 0 = λ table. (b e : ℕ) → is_set (row_at table b) e ≡ false in
    let after : TableValue → Type 0 =
    λ table. (b e : ℕ) → is_set (row_at table b) e ≡ has c.args.self.now.contents b c.args.ledger e in
    IfOk-weaker c.new.result before after (λ table none b e.
    none b e ∙ sym (has-none tables b c.args.ledger e c.in-None.ensures.value)
    ∙ ap (λ (v : HeldValue). has v.contents b c.args.ledger e) c.self.view_is)
    c.new.ensures.none
