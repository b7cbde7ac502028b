-- What becomes of contents and words as one table is written.
use Rattle.std.proofs.Common.{◌≡◌, zero, suc, inl, inr, nat_le, ◌-◌, ℕ, ◌+◌, ◌<◌, ◌≤◌, Bool, true, false, cond, ◌&&◌}
use Rattle.std.proofs.Common.{◌||◌, List, [], get_or, refl, sym, ap, subst, ◌∙◌, arith, nat_eq}
use Rattle.std.specs.Prelude.{max, ◌⊎◌}
use Rattle.std.specs.List.{list_any, range_with_len}
use Rattle.std.proofs.lemmas.Bool.{cases_lt}
use Rattle.reh_types.proofs.BitLaws.{in_range}
use Rattle.reh_model.proofs.Ranges.{list_any-same}
use Rattle.std.specs.Option.{is_some, option_map, unwrap_or, IfSome}
use Rattle.std.specs.declared.option.Option.{Option}
use Rattle.std.specs.declared.option.Option.TheVariants.{None, Some}
use Rattle.std.specs.Ordering.{nat_cmp, eq_by_cmp}
use Rattle.std.specs.Cmp.{unsigned_tied, nat_cmp_total}
use Rattle.std.specs.BTreeMap.{is_at}
use Rattle.std.specs.FinMap as finite
use Rattle.std.specs.FinMap.{FinMap, get-insert, len-insert, same_map, nat_cmp-IsAntisymmetric}
use Rattle.std.proofs.lemmas.Bool.Decides.{nat_tests}
use Rattle.reh_types.specs.Sets as set
use Rattle.reh_model.specs.Contents.{Contents, has, copies_of, one_of}
use Rattle.reh_model.proofs.ContentsLaws.{has-insert, has-union-copies_of}
use Rattle.reh_stripe.specs.Words.{is_between}
use Rattle.reh_held.specs.declared.turns.Turn.{Turn}
use Rattle.reh_held.specs.Rows.{is_set}
use Rattle.reh_held.specs.RowTurns.{is_turned}
use Rattle.reh_held.specs.Turns.{turned_all}
use Rattle.reh_held.specs.Tables.{TableValue, row_at, IsTable}
use Rattle.reh_held.specs.Kept.{table_at, rows_in, contents_of, words_of}
use Rattle.reh_held.proofs.HeldLaws.{contents_is, words_is, has-contents, get-words}
use Rattle.reh_held.proofs.TurnedLaws.{has-turned_all}

-- after this table is written for the ledger
abbrev pub IsWritten : List (ℕ × TableValue) → List (ℕ × TableValue) → ℕ → TableValue → Type 0
IsWritten before after ledger table =
    (l : ℕ) → table_at after l ≡ cond (is_at (nat_cmp ledger) l) (Some table) (table_at before l)

-- room that is there already
pub insert-same : (words : FinMap nat_cmp ℕ) (ledger n : ℕ) → 0 < n → n ≤ unwrap_or (finite.get words ledger) 0
    → finite.insert words ledger (max (unwrap_or (finite.get words ledger) 0) n) ≡ words
insert-same words ledger n some enough =
    same_map nat_cmp_total nat_cmp-IsAntisymmetric
    (finite.insert words ledger (max (unwrap_or (finite.get words ledger) 0) n)) words (λ l.
    get-insert nat_cmp_total words ledger (max (unwrap_or (finite.get words ledger) 0) n) l
    ∙ ap (λ b. cond b (Some (max (unwrap_or (finite.get words ledger) 0) n)) (finite.get words l))
    (unsigned_tied l ledger)
    ∙ elim (nat_eq l ledger) as (λ b. nat_eq l ledger ≡ b
    → cond b (Some (max (unwrap_or (finite.get words ledger) 0) n)) (finite.get words l) ≡ finite.get words l) [
      | true ↦ λ yes. let same : ledger ≡ l = grind (arith, nat_tests, yes) in
          found (finite.get words ledger) enough ∙ ap (finite.get words) same
      | false ↦ λ _. refl
    ] refl) where
      found : (o : Option ℕ) → n ≤ unwrap_or o 0 → Some (max (unwrap_or o 0) n) ≡ o
      found None within = absurd (omega (arith, some))
      found (Some m) within = let kept : max m n ≡ m = omega arith in ap Some kept

-- no more than there may be, where the ledger is one of them or there may be one more
pub len_within : (words : FinMap nat_cmp ℕ) (ledger width most : ℕ) {after : FinMap nat_cmp ℕ}
    → after ≡ finite.insert words ledger width → finite.len words ≤ most
    → (unwrap_or (finite.get words ledger) 0 ≡ 0 → finite.len words < most) → finite.len after ≤ most
len_within words ledger width most is few room =
    let len = ap finite.len is ∙ len-insert nat_cmp_total words ledger width in
    subst (λ n. n ≤ most) (sym len) (either (finite.get words ledger) (finite.len words) most few room) where
      either : (at : Option ℕ) (n most : ℕ) → n ≤ most → (unwrap_or at 0 ≡ 0 → n < most)
          → cond (is_some at) n (n + 1) ≤ most
      either None n most few room = let more : n < most = room refl in omega arith
      either (Some words) n most few room = few

-- the numbers of a range
any-range : (first last e : ℕ) → list_any (nat_eq e) (range_with_len first (last + 1 - first)) ≡ is_between first last e
any-range first last e =
    list_any-same (nat_eq e) (eq_by_cmp nat_cmp e) (λ x. sym (unsigned_tied e x))
    (range_with_len first (last + 1 - first))
    ∙ elim (cases_lt e first) [
      | inl before ↦
          let no : nat_le first e ≡ false = grind (arith, nat_tests) in
          outside e first (last + 1 - first) (inl before) ∙ sym (ap (λ b. b && nat_le e last) no)
      | inr from ↦
          let yes : nat_le first e ≡ true = grind (arith, nat_tests) in
          elim (cases_lt last e) [
            | inl past ↦
                let no : nat_le e last ≡ false = grind (arith, nat_tests) in
                outside e first (last + 1 - first) (inr (omega arith)) ∙ sym (λ i. yes i && no i)
            | inr within ↦
                let reached : nat_le e last ≡ true = grind (arith, nat_tests) in
                in_range e first (last + 1 - first) from (omega arith) ∙ sym (λ i. yes i && reached i)
          ]
    ] where
      outside : (e a n : ℕ) → (e < a) ⊎ (a + n ≤ e) → list_any (eq_by_cmp nat_cmp e) (range_with_len a n) ≡ false
      outside e a zero h = refl
      outside e a (suc n) h =
          let off : eq_by_cmp nat_cmp e a ≡ false = elim h [
            | inl before ↦ grind (arith, nat_tests, unsigned_tied e a)
            | inr past ↦ grind (arith, nat_tests, unsigned_tied e a)
          ] in
          let rest : (e < a + 1) ⊎ ((a + 1) + n ≤ e) = elim h [
            | inl before ↦ inl (omega arith)
            | inr past ↦ inr (omega arith)
          ] in
          ap (λ b. b || list_any (eq_by_cmp nat_cmp e) (range_with_len (a + 1) n)) off ∙ outside e (a + 1) n rest

pub turn_round : (a b : ℕ) → nat_eq a b ≡ nat_eq b a
turn_round a b = elim (nat_eq b a) as (λ t. nat_eq b a ≡ t → nat_eq a b ≡ t) [
  | true ↦ λ yes. let same : b ≡ a = grind (arith, nat_tests, yes) in grind (arith, nat_tests)
  | false ↦ λ differ. grind (arith, nat_tests, differ)
] refl

module _ (before after : List (ℕ × TableValue)) (ledger : ℕ) (table : TableValue)
    (written : IsWritten before after ledger table) where
  table-written : (l : ℕ) → table_at after l ≡ cond (nat_eq l ledger) (Some table) (table_at before l)
  table-written l =
      written l ∙ ap (λ b. cond b (Some table) (table_at before l)) (unsigned_tied ledger l ∙ turn_round ledger l)

  -- a ledger's own facts, and those of the others
  at_each : (P : ℕ → Option TableValue → Type 0) → P ledger (Some table) → ((l : ℕ) → P l (table_at before l)) → (l : ℕ)
      → P l (table_at after l)
  at_each P here others l =
      subst (P l) (sym (table-written l))
      (elim (nat_eq l ledger) as (λ b. nat_eq l ledger ≡ b → P l (cond b (Some table) (table_at before l))) [
        | true ↦ λ yes. let same : ledger ≡ l = grind (arith, nat_tests, yes) in subst (λ k. P k (Some table)) same here
        | false ↦ λ _. others l
      ] refl)

  pub written-kept : (bookies : ℕ) → IsTable bookies table → ((l : ℕ) → IfSome (table_at before l) (IsTable bookies))
      → (l : ℕ) → IfSome (table_at after l) (IsTable bookies)
  written-kept bookies is kept = at_each (λ l o. IfSome o (IsTable bookies)) is kept

  -- contents of which the ledger's part is in this table, and the others' parts are as before
  pub written-contents : (s : Contents) → ((b e : ℕ) → is_set (row_at table b) e ≡ has s b ledger e)
      → ((b l e : ℕ) → nat_eq l ledger ≡ false → has (contents_of before) b l e ≡ has s b l e) → contents_of after ≡ s
  written-contents s here others = contents_is after s (λ b l e.
      ap (λ (o : Option TableValue). is_set (get_or (rows_in o) b []) e) (table-written l)
      ∙ elim (nat_eq l ledger) as (λ t. nat_eq l ledger ≡ t
      → is_set (get_or (rows_in (cond t (Some table) (table_at before l))) b []) e ≡ has s b l e) [
        | true ↦ λ yes. let same : ledger ≡ l = grind (arith, nat_tests, yes) in here b e ∙ ap (λ k. has s b k e) same
        | false ↦ λ differ. sym (has-contents before b l e) ∙ others b l e differ
      ] refl)

  pub written-words : words_of after ≡ finite.insert (words_of before) ledger table.width
  written-words = words_is after (finite.insert (words_of before) ledger table.width) (λ l.
      ap (λ (o : Option TableValue). option_map (λ t. t.width) o) (table-written l)
      ∙ elim (nat_eq l ledger) as (λ b. option_map (λ t. t.width) (cond b (Some table) (table_at before l))
      ≡ cond b (Some table.width) (option_map (λ t. t.width) (table_at before l))) [
        | true ↦ refl
        | false ↦ refl
      ]
      ∙ (λ i. cond (sym (unsigned_tied l ledger) i) (Some table.width) (sym (get-words before l) i))
      ∙ sym (get-insert nat_cmp_total (words_of before) ledger table.width l))

  pub written-same_words : (old : TableValue) → Some old ≡ table_at before ledger → table.width ≡ old.width
      → words_of after ≡ words_of before
  written-same_words old found width = words_is after (words_of before) (λ l.
      at_each (λ k o. option_map (λ t. t.width) o ≡ option_map (λ t. t.width) (table_at before k))
      (ap Some width ∙ ap (option_map (λ t. t.width)) found) (λ k. refl) l
      ∙ sym (get-words before l))

  -- one copy more
  pub written-insert : (bookie entry : ℕ)
      → ((b e : ℕ)
      → is_set (row_at table b) e ≡ ((nat_eq b bookie && nat_eq e entry) || has (contents_of before) b ledger e))
      → contents_of after ≡ set.insert (contents_of before) (bookie, ledger, entry)
  written-insert bookie entry bits = written-contents (set.insert (contents_of before) (bookie, ledger, entry))
      (λ b e. bits b e ∙ sym (has-insert (contents_of before) bookie ledger entry b ledger e
      ∙ ap (λ t. ((nat_eq b bookie && t) && nat_eq e entry) || has (contents_of before) b ledger e) (itself ledger)
      ∙ one_true (nat_eq b bookie) (nat_eq e entry) (has (contents_of before) b ledger e)))
      (λ b l e differ. sym (has-insert (contents_of before) bookie ledger entry b l e
      ∙ ap (λ t. ((nat_eq b bookie && t) && nat_eq e entry) || has (contents_of before) b l e) differ
      ∙ one_false (nat_eq b bookie) (nat_eq e entry) (has (contents_of before) b l e))) where
        itself : (n : ℕ) → nat_eq n n ≡ true
        itself n = grind (arith, nat_tests)

        one_true : (a c d : Bool) → (((a && true) && c) || d) ≡ ((a && c) || d)
        one_true true c d = refl
        one_true false c d = refl

        one_false : (a c d : Bool) → (((a && false) && c) || d) ≡ d
        one_false true c d = refl
        one_false false c d = refl

  -- bits of words turned
  pub written-turned : (bookie : ℕ) (turns : List Turn)
      → ((b e : ℕ)
      → is_set (row_at table b) e
      ≡ one_of (has (contents_of before) b ledger e) (nat_eq b bookie && is_turned turns e))
      → contents_of after ≡ turned_all (contents_of before) bookie ledger turns
  written-turned bookie turns bits = written-contents (turned_all (contents_of before) bookie ledger turns)
      (λ b e. bits b e ∙ sym (has-turned_all (contents_of before) bookie ledger turns b ledger e
      ∙ ap (λ t. one_of (has (contents_of before) b ledger e) ((nat_eq b bookie && t) && is_turned turns e))
      (itself ledger)
      ∙ ap (λ t. one_of (has (contents_of before) b ledger e) (t && is_turned turns e))
      (with_true (nat_eq b bookie))))
      (λ b l e differ. sym (has-turned_all (contents_of before) bookie ledger turns b l e
      ∙ ap (λ t. one_of (has (contents_of before) b l e) ((nat_eq b bookie && t) && is_turned turns e)) differ
      ∙ none_turned (has (contents_of before) b l e) (nat_eq b bookie) (is_turned turns e))) where
        itself : (n : ℕ) → nat_eq n n ≡ true
        itself n = grind (arith, nat_tests)

        with_true : (a : Bool) → (a && true) ≡ a
        with_true true = refl
        with_true false = refl

        none_turned : (h a c : Bool) → one_of h ((a && false) && c) ≡ h
        none_turned true true c = refl
        none_turned true false c = refl
        none_turned false true c = refl
        none_turned false false c = refl

  -- the copies of a range more
  pub written-range : (bookie first last : ℕ)
      → ((b e : ℕ)
      → is_set (row_at table b) e
      ≡ ((nat_eq b bookie && is_between first last e) || has (contents_of before) b ledger e))
      → contents_of after
      ≡ set.union (contents_of before) (copies_of bookie ledger (range_with_len first (last + 1 - first)))
  written-range bookie first last bits =
      written-contents
      (set.union (contents_of before) (copies_of bookie ledger (range_with_len first (last + 1 - first))))
      (λ b e. bits b e
      ∙ either_round (nat_eq b bookie && is_between first last e) (has (contents_of before) b ledger e)
      ∙ sym (has-union-copies_of (contents_of before) bookie ledger (range_with_len first (last + 1 - first)) b ledger e
      ∙ (λ i. has (contents_of before) b ledger e || ((nat_eq b bookie && itself ledger i) && any-range first last e i))
      ∙ ap (λ t. has (contents_of before) b ledger e || (t && is_between first last e)) (with_true (nat_eq b bookie))))
      (λ b l e differ.
      sym (has-union-copies_of (contents_of before) bookie ledger (range_with_len first (last + 1 - first)) b l e
      ∙ ap (λ t.
      has (contents_of before) b l e
      || ((nat_eq b bookie && t) && list_any (nat_eq e) (range_with_len first (last + 1 - first))))
      differ
      ∙ none_more (has (contents_of before) b l e) (nat_eq b bookie)
      (list_any (nat_eq e) (range_with_len first (last + 1 - first))))) where
        itself : (n : ℕ) → nat_eq n n ≡ true
        itself n = grind (arith, nat_tests)

        with_true : (a : Bool) → (a && true) ≡ a
        with_true true = refl
        with_true false = refl

        either_round : (a b : Bool) → (a || b) ≡ (b || a)
        either_round true true = refl
        either_round true false = refl
        either_round false true = refl
        either_round false false = refl

        none_more : (h a c : Bool) → (h || ((a && false) && c)) ≡ h
        none_more true a c = refl
        none_more false true c = refl
        none_more false false c = refl
