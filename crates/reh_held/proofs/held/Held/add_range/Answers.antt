-- The bits of a range are set in the ledger's table.
use Rattle.std.proofs.Common.{◌≤◌, ◌+◌, ◌-◌, ◌&&◌, ◌||◌, ℕ, List, nat_eq, refl, sym, ap, subst, ◌∙◌, arith}
use Rattle.std.specs.Option.{IsSome}
use Rattle.std.specs.FinMap as finite
use Rattle.std.specs.List.{range_with_len}
use Rattle.reh_types.specs.Sets as set
use Rattle.reh_model.specs.Contents.{copies_of}
use Rattle.reh_stripe.specs.Words.{is_between}
use Rattle.reh_held.specs.Tables.{TableValue, IsTable}
use Rattle.reh_held.specs.Values.{HeldValue}
use Rattle.reh_held.specs.Kept.{held_of, IsKept}
use Rattle.reh_types.specs.declared.limits.TheConstants.{MAX_LEDGERS}
use Rattle.reh_held.proofs.HeldLaws.{kept_table, own_table, words-found, words-none, has-found}
use Rattle.reh_held.proofs.WrittenLaws.{written-kept, written-range, written-same_words}
use Rattle.reh_held.proofs.held.Held.add_range.Goals as goal
use Rattle.reh_held.proofs.held.Held.add_range.Goals.{in-Some, in-None}

pub insert_range-requires-clause-table : goal.insert_range-requires-clause-table
insert_range-requires-clause-table c =
    own_table
    (kept_table c.self.inside.tables.entries c.args.ledger c.in-Some.table.now c.self.invariant.tables
    c.in-Some.ensures.value)

pub insert_range-requires-clause-bookie : goal.insert_range-requires-clause-bookie
insert_range-requires-clause-bookie c =
    let table =
    kept_table c.self.inside.tables.entries c.args.ledger c.in-Some.table.now c.self.invariant.tables
    c.in-Some.ensures.value in
    let within = rw (← c.self.view_is) at c.requires.bookie in
    omega (arith, table.size)

pub insert_range-requires-clause-last : goal.insert_range-requires-clause-last
insert_range-requires-clause-last c =
    let within = rw (← c.self.view_is) at c.requires.last in
    omega (arith, words-found c.self.inside.tables.entries c.args.ledger c.in-Some.table.now c.in-Some.ensures.value)

pub invariant_of-self : goal.invariant_of-self
invariant_of-self c = elim c.match-get_mut.branch [
  | in-Some w ↦
      let tables : List (ℕ × TableValue) = c.self.inside.tables.entries in
      let found = w.in-Some.ensures.value in
      let h = c.get_mut.follows.holds w.insert_range.new.self in
      let table = kept_table tables c.args.ledger w.in-Some.table.now c.self.invariant.tables found in
      let still : IsTable c.self.inside.bookies w.insert_range.new.self =
      subst (λ n. IsTable n w.insert_range.new.self) table.size w.insert_range.ensures.table in
      subst IsKept (sym w.self-inside-is) (record {
        few =
            subst (λ words. finite.len words ≤ MAX_LEDGERS)
            (sym
            (written-same_words tables (c.get_mut.follows.lender w.insert_range.new.self).entries c.args.ledger
            w.insert_range.new.self (h.3 (subst IsSome found refl)).0 w.in-Some.table.now found
            w.insert_range.ensures.width))
            c.self.invariant.few;
        tables =
            written-kept tables (c.get_mut.follows.lender w.insert_range.new.self).entries c.args.ledger
            w.insert_range.new.self (h.3 (subst IsSome found refl)).0 c.self.inside.bookies still
            c.self.invariant.tables;
      })
  | in-None w ↦
      let within = rw (← c.self.view_is) at c.requires.last in
      absurd (omega (arith, words-none c.self.inside.tables.entries c.args.ledger w.in-None.ensures.value))
]

pub returns : goal.returns
returns c = elim c.match-get_mut.branch [
  | in-Some w ↦
      let tables : List (ℕ × TableValue) = c.self.inside.tables.entries in
      let after : List (ℕ × TableValue) = (c.get_mut.follows.lender w.insert_range.new.self).entries in
      let found = w.in-Some.ensures.value in
      let h = c.get_mut.follows.holds w.insert_range.new.self in
      let written = (h.3 (subst IsSome found refl)).0 in
      let entries : List ℕ = range_with_len c.args.first (c.args.last + 1 - c.args.first) in
      let contents =
      written-range tables after c.args.ledger w.insert_range.new.self written c.args.bookie c.args.first c.args.last
      (λ b e.
      w.insert_range.ensures.bits b e
      ∙ ap (λ was. (nat_eq b c.args.bookie && is_between c.args.first c.args.last e) || was)
      (sym (has-found tables b c.args.ledger e w.in-Some.table.now found))) in
      let words =
      written-same_words tables after c.args.ledger w.insert_range.new.self written w.in-Some.table.now found
      w.insert_range.ensures.width in
      ap held_of w.self-inside-is
      ∙ (λ i. record {
        contents =
            (contents
            ∙ ap (λ (v : HeldValue). set.union v.contents (copies_of c.args.bookie c.args.ledger entries))
            c.self.view_is)
            i;
        bookies = (c.self.view_is i).bookies;
        words = (words ∙ ap (λ (v : HeldValue). v.words) c.self.view_is) i;
      })
  | in-None w ↦
      let within = rw (← c.self.view_is) at c.requires.last in
      absurd (omega (arith, words-none c.self.inside.tables.entries c.args.ledger w.in-None.ensures.value))
]
