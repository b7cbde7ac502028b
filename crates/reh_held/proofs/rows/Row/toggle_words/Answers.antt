-- Each of the changes is of a word of the row, and turns its bits.
use Rattle.std.proofs.Common.{◌≡◌, ◌∙◌, ◌+◌, ◌<◌, ℕ, List, ◌∷◌, length, map, drop, get_or, refl, sym, ap, subst}
use Rattle.std.specs.Prelude.{All}
use Rattle.std.proofs.lemmas.List.{drop_more}
use Rattle.std.proofs.lemmas.List.Elements.{All-get_or}
use Rattle.reh_types.specs.declared.changes.Change.{Change}
use Rattle.reh_types.specs.declared.changes.Change.TheVariants.{Word}
use Rattle.reh_model.specs.Contents.{is_in_word, one_of}
use Rattle.reh_held.specs.Rows.{is_set}
use Rattle.reh_held.specs.RowTurns.{turn_of, is_turned, IsWordWithin}
use Rattle.reh_held.proofs.RowLaws.{one_of-group}
use Rattle.reh_held.proofs.rows.Row.toggle_words.Goals.{in-Word, in_default}
use Rattle.reh_held.proofs.rows.Row.toggle_words.Goals as goal

module _ {M : Type 0} (words : ℕ) (cs : List (Change M)) (within : All (IsWordWithin words) cs) (i : ℕ) (c : Change M)
    (is : c ≡ get_or cs i c) (there : i < length cs) where
  here : IsWordWithin words c
  here = subst (IsWordWithin words) (sym is) (All-get_or (IsWordWithin words) cs i c there within)

  turned_here : (was now : List ℕ) (b l k bits : ℕ) → c ≡ Word b l k bits
      → ((e : ℕ) → is_set now e ≡ one_of (is_set was e) (is_in_word k bits e)) → (e : ℕ)
      → one_of (is_set now e) (is_turned (map turn_of (drop (i + 1) cs)) e)
      ≡ one_of (is_set was e) (is_turned (map turn_of (drop i cs)) e)
  turned_here was now b l k bits word turns e =
      ap (λ h. one_of h (is_turned (map turn_of (drop (i + 1) cs)) e)) (turns e)
      ∙ sym (one_of-group (is_set was e) (is_in_word k bits e) (is_turned (map turn_of (drop (i + 1) cs)) e))
      ∙ ap (λ (xs : List (Change M)). one_of (is_set was e) (is_turned (map turn_of xs) e))
      (sym (drop_more cs i c there ∙ ap (λ (d : Change M). d ∷ drop (i + 1) cs) (sym is ∙ word)))

is_word : {M : Type 0} (words : ℕ) (c : Change M) → IsWordWithin words c
    → ((b l k bits : ℕ) → c ≡ Word b l k bits → ⊥) → ⊥
is_word words (Word b l k bits) within not = not b l k bits refl
is_word words c within not = within

pub toggle-requires : goal.toggle-requires
toggle-requires g c =
    subst (λ (n : ℕ). c.in-Word.number < n) (sym c.loop-change.invariant.0)
    (rw c.in-Word.is at (here (length c.args.self.now) c.args.words.now c.requires c.loop-change.change-index
    c.change-item.result c.change-item.is c.loop-change-test.true))

pub loop-change-preserved : goal.loop-change-preserved
loop-change-preserved g c =
    let i : ℕ = c.loop-change.change-index in
    elim c.match-change.branch [
      | in-Word w ↦ (
        ap (length {A = ℕ}) w.self-is ∙ w.toggle.ensures.width ∙ c.loop-change.invariant.0,
        λ e.
            ap (λ (row : List ℕ). one_of (is_set row e) (is_turned (map turn_of (drop (i + 1) c.args.words.now)) e))
            w.self-is
            ∙ turned_here (length c.args.self.now) c.args.words.now c.requires i c.change-item.result c.change-item.is
            c.loop-change-test.true c.loop-change.self w.toggle.new.self _ _ _ _ w.in-Word.is w.toggle.ensures.bits e
            ∙ c.loop-change.invariant.1 e,
      )
      | in_default w ↦
          absurd (is_word (length c.args.self.now) c.change-item.result
          (here (length c.args.self.now) c.args.words.now c.requires i c.change-item.result c.change-item.is
          c.loop-change-test.true) w.in_default.not-Word)
    ]
