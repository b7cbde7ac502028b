-- The bits turn in the bookie's row, and in no other.
use Rattle.std.proofs.Common.{◌≡◌, ℕ, ◌<◌, Bool, true, false, ◌&&◌, List, [], length, map, set, get_or, nat_eq, sym, ap}
use Rattle.std.proofs.Common.{subst, ◌∙◌, arith, inl, inr}
use Rattle.std.specs.Prelude.{All}
use Rattle.std.proofs.lemmas.Bool.{cases_eq}
use Rattle.std.proofs.lemmas.Bool.Decides.{nat_tests}
use Rattle.std.proofs.lemmas.List.{get_or_read, get_or-set_same, get_or-set_other, length-set}
use Rattle.reh_model.specs.Contents.{one_of}
use Rattle.reh_model.proofs.TurnedLaws.{one_of-false}
use Rattle.reh_held.specs.Rows.{is_set}
use Rattle.reh_held.specs.RowTurns.{turn_of, is_turned, IsWordWithin}
use Rattle.reh_held.specs.Tables.{TableValue, row_at, IsTable}
use Rattle.reh_held.proofs.tables.Table.toggle_words.Goals as goal

-- the table with another row for the bookie
abbrev with_row : TableValue → ℕ → List ℕ → TableValue
with_row table bookie row = record table { rows = set table.rows bookie row }

row_is : (rows was : List (List ℕ)) (i bookie : ℕ) (row : List ℕ) → rows ≡ was → i ≡ bookie → bookie < length was
    → row ≡ get_or rows i row → row ≡ get_or was bookie []
row_is rows was i bookie row rows_is bookie_is there read =
    let within : bookie < length rows = subst (λ (rs : List (List ℕ)). bookie < length rs) (sym rows_is) there in
    get_or_read rows i row (subst (λ (k : ℕ). k < length rows) (sym bookie_is) within) read []
    ∙ (λ j. get_or (rows_is j) (bookie_is j) [])

still_table : (table : TableValue) (bookie : ℕ) (row : List ℕ) → IsTable (length table.rows) table
    → bookie < length table.rows → length row ≡ table.width → IsTable (length table.rows) (with_row table bookie row)
still_table table bookie row is there size = record {
  size = length-set table.rows bookie row;
  widths =
      λ b within. elim (cases_eq b bookie) [
        | inl same ↦
            ap (λ (k : ℕ). length (get_or (set table.rows bookie row) k [])) same
            ∙ ap (length {A = ℕ}) (get_or-set_same table.rows bookie row [] there) ∙ size
        | inr apart ↦
            ap (length {A = ℕ}) (get_or-set_other table.rows bookie b row [] apart) ∙ is.widths b within
      ];
  small = is.small;
}

turned_in : (table : TableValue) (bookie : ℕ) (row : List ℕ) (turned : ℕ → Bool) → bookie < length table.rows
    → ((e : ℕ) → is_set row e ≡ one_of (is_set (row_at table bookie) e) (turned e)) → (b e : ℕ)
    → is_set (row_at (with_row table bookie row) b) e ≡ one_of (is_set (row_at table b) e) (nat_eq b bookie && turned e)
turned_in table bookie row turned there turns b e = elim (cases_eq b bookie) [
  | inl is ↦
      let same : nat_eq b bookie ≡ true = grind (arith, nat_tests) in
      ap (λ (k : ℕ). is_set (get_or (set table.rows bookie row) k []) e) is
      ∙ ap (λ (r : List ℕ). is_set r e) (get_or-set_same table.rows bookie row [] there) ∙ turns e
      ∙ (λ j. one_of (is_set (row_at table (sym is j)) e) (sym same j && turned e))
  | inr apart ↦
      let other : nat_eq b bookie ≡ false = grind (arith, nat_tests) in
      ap (λ (r : List ℕ). is_set r e) (get_or-set_other table.rows bookie b row [] apart)
      ∙ sym (ap (λ (c : Bool). one_of (is_set (row_at table b) e) (c && turned e)) other
      ∙ one_of-false (is_set (row_at table b) e))
]

pub toggle_words-requires : goal.toggle_words-requires
toggle_words-requires g c =
    let is =
    row_is c.self.inside.rows.items c.args.self.now.rows c.bookie.inside.0 c.args.bookie c.index_mut.result.now
    (ap (λ v. v.rows) c.self.view_is) c.bookie.view_is c.requires.bookie c.index_mut.ensures.value in
    subst (λ (n : ℕ). All (IsWordWithin n) c.args.words.now)
    (sym (ap (length {A = ℕ}) is ∙ c.requires.table.widths c.args.bookie c.requires.bookie)) c.requires.words

pub returns : goal.returns
returns g c =
    let table : TableValue = c.args.self.now in
    let new : List ℕ = c.toggle_words.new.self in
    let is =
    row_is c.self.inside.rows.items table.rows c.bookie.inside.0 c.args.bookie c.index_mut.result.now
    (ap (λ v. v.rows) c.self.view_is) c.bookie.view_is c.requires.bookie c.index_mut.ensures.value in
    let made : _ ≡ with_row table c.args.bookie new = λ j. with_row (c.self.view_is j) (c.bookie.view_is j) new in
    let turned : ℕ → Bool = is_turned (map turn_of c.args.words.now) in
    record {
      width = ap (λ v. v.width) c.self.view_is;
      table =
          subst (IsTable (length table.rows)) (sym made)
          (still_table table c.args.bookie new c.requires.table c.requires.bookie
          (c.toggle_words.ensures.width ∙ ap (length {A = ℕ}) is
          ∙ c.requires.table.widths c.args.bookie c.requires.bookie));
      bits =
          λ b e. ap (λ t. is_set (row_at t b) e) made
          ∙ turned_in table c.args.bookie new turned c.requires.bookie
          (λ e. c.toggle_words.ensures.bits e ∙ ap (λ (r : List ℕ). one_of (is_set r e) (turned e)) is) b e;
    }
