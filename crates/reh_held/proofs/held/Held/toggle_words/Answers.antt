-- The words turn in the ledger's table; where there is none, there are no words.
use Rattle.std.proofs.Common.{◌≡◌, ◌<◌, ◌≤◌, ◌&&◌, ℕ, List, [], ◌∷◌, nat_eq, map, refl, sym, ap, subst, ◌∙◌, arith}
use Rattle.std.specs.Option.{IsSome}
use Rattle.std.specs.FinMap as finite
use Rattle.std.specs.Prelude.{All}
use Rattle.std.proofs.lemmas.List.Elements.{All-head, All-weaker}
use Rattle.reh_types.specs.declared.changes.Change.{Change}
use Rattle.reh_types.specs.declared.changes.Change.TheVariants.{Word}
use Rattle.reh_model.specs.Contents.{Contents, one_of}
use Rattle.reh_held.specs.declared.turns.Turn.{Turn}
use Rattle.reh_held.specs.RowTurns.{turn_of, is_turned, IsWordWithin}
use Rattle.reh_held.specs.Turns.{turned_all, IsWordOf}
use Rattle.reh_held.specs.Tables.{TableValue, IsTable}
use Rattle.reh_held.specs.Values.{HeldValue, words_in}
use Rattle.reh_held.specs.Kept.{held_of, IsKept}
use Rattle.reh_types.specs.declared.limits.TheConstants.{MAX_LEDGERS}
use Rattle.reh_held.proofs.HeldLaws.{kept_table, own_table, words-found, words-none, has-found}
use Rattle.reh_held.proofs.WrittenLaws.{written-kept, written-turned, written-same_words}
use Rattle.reh_held.proofs.held.Held.toggle_words.Goals as goal
use Rattle.reh_held.proofs.held.Held.toggle_words.Goals.{in-Some, in-None}

within_words : {M : Type 0} {words width : ℕ} (bookie ledger : ℕ) → words ≡ width → (c : Change M)
    → IsWordOf words bookie ledger c → IsWordWithin width c
within_words bookie ledger is (Word b l k bits) of_row = subst (λ (n : ℕ). k < n) is of_row.2
within_words bookie ledger is c of_row = of_row

-- among no words there is none to turn
none_turned : {M : Type 0} {words : ℕ} (s : Contents) (bookie ledger : ℕ) → words ≡ 0 → (cs : List (Change M))
    → All (IsWordOf words bookie ledger) cs → s ≡ turned_all s bookie ledger (map turn_of cs)
none_turned s bookie ledger none [] of_row = refl
none_turned {words} s bookie ledger none (c ∷ cs) of_row =
    absurd (no_word c (within_words bookie ledger none c (All-head (IsWordOf words bookie ledger) c cs of_row))) where
      no_word : {M : Type 0} (c : Change M) → IsWordWithin 0 c → ⊥
      no_word (Word b l k bits) below = omega (arith, below)
      no_word c below = below

pub toggle_words-requires-clause-table : goal.toggle_words-requires-clause-table
toggle_words-requires-clause-table g c =
    own_table
    (kept_table c.self.inside.tables.entries c.args.ledger c.in-Some.table.now c.self.invariant.tables
    c.in-Some.ensures.value)

pub toggle_words-requires-clause-bookie : goal.toggle_words-requires-clause-bookie
toggle_words-requires-clause-bookie g c =
    let table =
    kept_table c.self.inside.tables.entries c.args.ledger c.in-Some.table.now c.self.invariant.tables
    c.in-Some.ensures.value in
    let within = rw (← c.self.view_is) at c.requires.bookie in
    omega (arith, table.size)

pub toggle_words-requires-clause-words : goal.toggle_words-requires-clause-words
toggle_words-requires-clause-words g c =
    All-weaker _ _ (λ word. within_words c.args.bookie c.args.ledger
    (words-found c.self.inside.tables.entries c.args.ledger c.in-Some.table.now c.in-Some.ensures.value) word) c.args.words.now
    (rw (← c.self.view_is) at c.requires.words)

pub invariant_of-self : goal.invariant_of-self
invariant_of-self g c = elim c.match-get_mut.branch [
  | in-Some w ↦
      let tables : List (ℕ × TableValue) = c.self.inside.tables.entries in
      let found = w.in-Some.ensures.value in
      let h = c.get_mut.follows.holds w.toggle_words.new.self in
      let table = kept_table tables c.args.ledger w.in-Some.table.now c.self.invariant.tables found in
      let still : IsTable c.self.inside.bookies w.toggle_words.new.self =
      subst (λ n. IsTable n w.toggle_words.new.self) table.size w.toggle_words.ensures.table in
      subst IsKept (sym w.self-inside-is) (record {
        few =
            subst (λ words. finite.len words ≤ MAX_LEDGERS)
            (sym
            (written-same_words tables (c.get_mut.follows.lender w.toggle_words.new.self).entries c.args.ledger
            w.toggle_words.new.self (h.3 (subst IsSome found refl)).0 w.in-Some.table.now found w.toggle_words.ensures.width))
            c.self.invariant.few;
        tables =
            written-kept tables (c.get_mut.follows.lender w.toggle_words.new.self).entries c.args.ledger w.toggle_words.new.self
            (h.3 (subst IsSome found refl)).0 c.self.inside.bookies still c.self.invariant.tables;
      })
  | in-None w ↦ subst IsKept (sym (w.self-inside-is ∙ rw c.get_mut.follows.holds-at-none)) c.self.invariant
]

pub returns : goal.returns
returns g c = let turns : List Turn = map turn_of c.args.words.now in elim c.match-get_mut.branch [
  | in-Some w ↦
      let tables : List (ℕ × TableValue) = c.self.inside.tables.entries in
      let after : List (ℕ × TableValue) = (c.get_mut.follows.lender w.toggle_words.new.self).entries in
      let found = w.in-Some.ensures.value in
      let h = c.get_mut.follows.holds w.toggle_words.new.self in
      let written = (h.3 (subst IsSome found refl)).0 in
      let contents =
      written-turned tables after c.args.ledger w.toggle_words.new.self written c.args.bookie turns
      (λ b e.
      w.toggle_words.ensures.bits b e
      ∙ ap (λ was. one_of was (nat_eq b c.args.bookie && is_turned turns e))
      (sym (has-found tables b c.args.ledger e w.in-Some.table.now found))) in
      let words =
      written-same_words tables after c.args.ledger w.toggle_words.new.self written w.in-Some.table.now found
      w.toggle_words.ensures.width in
      ap held_of w.self-inside-is
      ∙ (λ i. record {
        contents =
            (contents
            ∙ ap (λ (v : HeldValue). turned_all v.contents c.args.bookie c.args.ledger turns)
            c.self.view_is)
            i;
        bookies = (c.self.view_is i).bookies;
        words = (words ∙ ap (λ (v : HeldValue). v.words) c.self.view_is) i;
      })
  | in-None w ↦
      ap held_of w.self-inside-is ∙ rw c.get_mut.follows.holds-at-none c.self.view_is
      ∙ ap (λ (s : Contents). record c.args.self.now { contents = s })
      (none_turned c.args.self.now.contents c.args.bookie c.args.ledger
      (ap (λ (v : HeldValue). words_in v c.args.ledger) (sym c.self.view_is)
      ∙ words-none c.self.inside.tables.entries c.args.ledger w.in-None.ensures.value)
      c.args.words.now c.requires.words)
]
