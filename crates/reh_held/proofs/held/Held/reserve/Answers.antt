-- One table is written, with what was held.
use Rattle.std.proofs.Common.{◌≡◌, ◌+◌, ◌/◌, ◌<◌, ◌≤◌, ℕ, List, sym, ap, subst, ◌∙◌, arith}
use Rattle.std.specs.Prelude.{max}
use Rattle.std.specs.FinMap as finite
use Rattle.reh_types.specs.declared.limits.TheConstants.{MAX_LEDGERS}
use Rattle.reh_model.specs.Contents.{has}
use Rattle.reh_held.specs.Tables.{TableValue, IsTable}
use Rattle.reh_held.specs.Kept.{words_of}
use Rattle.reh_held.specs.Values.{HeldValue, words_in}
use Rattle.reh_held.proofs.HeldLaws.{words-found}
use Rattle.reh_held.proofs.WrittenLaws.{written-kept, written-contents, written-words, insert-same, len_within}
use Rattle.reh_held.proofs.held.Held.reserve.Goals as goal

pub returns-then-width-words-clause-ok : goal.returns-then-width-words-clause-ok
returns-then-width-words-clause-ok c =
    let held : HeldValue = c.args.self.now in
    let n : ℕ = c.args.entry / 64 + 1 in
    let enough : n ≤ words_in held c.args.ledger = omega (arith, c.words.ensures) in
    let same : finite.insert held.words c.args.ledger (max (words_in held c.args.ledger) n) ≡ held.words =
    insert-same held.words c.args.ledger n (omega arith) enough in
    λ i. record { contents = held.contents; bookies = held.bookies; words = sym same i }

pub invariant_of-self-2 : goal.invariant_of-self-2
invariant_of-self-2 c =
    let tables : List (ℕ × TableValue) = c.self.inside.tables.entries in
    let table : TableValue = c.in_ok-table.table in
    let updated = c.in_ok-insert.ensures.updates.0 in
    let still : IsTable c.self.inside.bookies table =
    subst (λ (v : HeldValue). IsTable v.bookies table) (sym c.self.view_is) c.in_ok-table.ensures.table in
    let words = written-words tables c.insert.new.self.entries c.args.ledger table updated in
    let room =
    subst (λ (v : HeldValue). words_in v c.args.ledger ≡ 0 → finite.len v.words < MAX_LEDGERS)
    (sym c.self.view_is) c.requires in
    record {
      few = len_within (words_of tables) c.args.ledger table.width MAX_LEDGERS words c.self.invariant.few room;
      tables =
          written-kept tables c.insert.new.self.entries c.args.ledger table updated c.self.inside.bookies still
          c.self.invariant.tables;
    }

pub returns-clause-ok : goal.returns-clause-ok
returns-clause-ok c =
    let held : HeldValue = c.args.self.now in
    let tables : List (ℕ × TableValue) = c.self.inside.tables.entries in
    let after : List (ℕ × TableValue) = c.insert.new.self.entries in
    let was = ap (λ (v : HeldValue). v.contents) c.self.view_is in
    let contents =
    written-contents tables after c.args.ledger c.in_ok-table.table c.in_ok-insert.ensures.updates.0 held.contents
    c.in_ok-table.ensures.same (λ b l e differ. ap (λ s. has s b l e) was) in
    let words = written-words tables after c.args.ledger c.in_ok-table.table c.in_ok-insert.ensures.updates.0 in
    let width : c.in_ok-table.table.width ≡ max (words_in held c.args.ledger) (c.args.entry / 64 + 1) =
    omega (arith, c.in_ok-table.ensures.width, c.words.ensures) in
    λ i. record {
      contents = contents i;
      bookies = (c.self.view_is i).bookies;
      words = (words ∙ (λ j. finite.insert (c.self.view_is j).words c.args.ledger (width j))) i;
    }

pub returns-clause-room : goal.returns-clause-room
returns-clause-room c =
    let room =
    words-found c.insert.new.self.entries c.args.ledger c.in_ok-table.table (sym c.in_ok-insert.ensures.updates.1) in
    omega (arith, room, c.in_ok-table.ensures.width)

pub returns-clause-few : goal.returns-clause-few
returns-clause-few c =
    let tables : List (ℕ × TableValue) = c.self.inside.tables.entries in
    let table : TableValue = c.in_ok-table.table in
    let words =
    written-words tables c.insert.new.self.entries c.args.ledger table c.in_ok-insert.ensures.updates.0 in
    let before : ℕ = finite.len (words_of tables) in
    let more =
    len_within (words_of tables) c.args.ledger table.width (before + 1) words (omega arith) (λ _. omega arith) in
    omega (arith, more, ap (λ (v : HeldValue). finite.len v.words) c.self.view_is)
