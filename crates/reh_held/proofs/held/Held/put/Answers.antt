-- One bit is set in the ledger's table.
use Rattle.std.proofs.Common.{◌≤◌, ◌&&◌, ◌||◌, ℕ, List, nat_eq, refl, sym, ap, subst, ◌∙◌, arith}
use Rattle.std.specs.Option.{IsSome}
use Rattle.std.specs.FinMap as finite
use Rattle.reh_types.specs.Sets as set
use Rattle.reh_held.specs.Tables.{TableValue, IsTable}
use Rattle.reh_held.specs.Values.{HeldValue}
use Rattle.reh_held.specs.Kept.{held_of, IsKept}
use Rattle.reh_types.specs.declared.limits.TheConstants.{MAX_LEDGERS}
use Rattle.reh_held.proofs.HeldLaws.{kept_table, own_table, words-found, words-none, has-found}
use Rattle.reh_held.proofs.WrittenLaws.{written-kept, written-insert, written-same_words}
use Rattle.reh_held.proofs.held.Held.put.Goals as goal
use Rattle.reh_held.proofs.held.Held.put.Goals.{in-Some, in-None}

pub insert-requires-clause-table : goal.insert-requires-clause-table
insert-requires-clause-table c =
    own_table
    (kept_table c.self.inside.tables.entries c.args.ledger c.in-Some.table.now c.self.invariant.tables
    c.in-Some.ensures.value)

pub insert-requires-clause-bookie : goal.insert-requires-clause-bookie
insert-requires-clause-bookie c =
    let table =
    kept_table c.self.inside.tables.entries c.args.ledger c.in-Some.table.now c.self.invariant.tables
    c.in-Some.ensures.value in
    let within = rw (← c.self.view_is) at c.requires.bookie in
    omega (arith, table.size)

pub insert-requires-clause-entry : goal.insert-requires-clause-entry
insert-requires-clause-entry c =
    let within = rw (← c.self.view_is) at c.requires.entry in
    omega (arith, words-found c.self.inside.tables.entries c.args.ledger c.in-Some.table.now c.in-Some.ensures.value)

pub invariant_of-self : goal.invariant_of-self
invariant_of-self c = elim c.match-get_mut.branch [
  | in-Some w ↦
      let tables : List (ℕ × TableValue) = c.self.inside.tables.entries in
      let found = w.in-Some.ensures.value in
      let h = c.get_mut.follows.holds w.insert.new.self in
      let table = kept_table tables c.args.ledger w.in-Some.table.now c.self.invariant.tables found in
      let still : IsTable c.self.inside.bookies w.insert.new.self =
      subst (λ n. IsTable n w.insert.new.self) table.size w.insert.ensures.table in
      subst IsKept (sym w.self-inside-is) (record {
        few =
            subst (λ words. finite.len words ≤ MAX_LEDGERS)
            (sym
            (written-same_words tables (c.get_mut.follows.lender w.insert.new.self).entries c.args.ledger
            w.insert.new.self (h.3 (subst IsSome found refl)).0 w.in-Some.table.now found w.insert.ensures.width))
            c.self.invariant.few;
        tables =
            written-kept tables (c.get_mut.follows.lender w.insert.new.self).entries c.args.ledger w.insert.new.self
            (h.3 (subst IsSome found refl)).0 c.self.inside.bookies still c.self.invariant.tables;
      })
  | in-None w ↦
      let within = rw (← c.self.view_is) at c.requires.entry in
      absurd (omega (arith, words-none c.self.inside.tables.entries c.args.ledger w.in-None.ensures.value))
]

pub returns : goal.returns
returns c = elim c.match-get_mut.branch [
  | in-Some w ↦
      let tables : List (ℕ × TableValue) = c.self.inside.tables.entries in
      let after : List (ℕ × TableValue) = (c.get_mut.follows.lender w.insert.new.self).entries in
      let copy : ℕ × ℕ × ℕ = (c.args.bookie, c.args.ledger, c.args.entry) in
      let found = w.in-Some.ensures.value in
      let h = c.get_mut.follows.holds w.insert.new.self in
      let written = (h.3 (subst IsSome found refl)).0 in
      let contents =
      written-insert tables after c.args.ledger w.insert.new.self written c.args.bookie c.args.entry (λ b e.
      w.insert.ensures.bits b e
      ∙ ap (λ was. (nat_eq b c.args.bookie && nat_eq e c.args.entry) || was)
      (sym (has-found tables b c.args.ledger e w.in-Some.table.now found))) in
      let words =
      written-same_words tables after c.args.ledger w.insert.new.self written w.in-Some.table.now found
      w.insert.ensures.width in
      ap held_of w.self-inside-is
      ∙ (λ i.
      record {
        contents = (contents ∙ ap (λ (v : HeldValue). set.insert v.contents copy) c.self.view_is) i;
        bookies = (c.self.view_is i).bookies;
        words = (words ∙ ap (λ (v : HeldValue). v.words) c.self.view_is) i;
      })
  | in-None w ↦
      let within = rw (← c.self.view_is) at c.requires.entry in
      absurd (omega (arith, words-none c.self.inside.tables.entries c.args.ledger w.in-None.ensures.value))
]
