-- The lines of a text.
use Rattle.std.proofs.Common.{◌≡◌, ℕ, suc, ◌+◌, ◌-◌, ◌<◌, Bool, true, false, cond, not, List, [], ◌∷◌, length, take, drop, refl, sym, ap, ◌∙◌, arith, length-drop}
use Rattle.std.specs.Prelude.{None, Some, Result, Ok, Err, position, ◌==◌, ◌&&◌}
use Rattle.std.specs.List.{position_or_len, slice_split, onto_first}
use Rattle.std.proofs.Math.Seq.{take-length}
use Rattle.std.proofs.lemmas.Bool.Decides.{nat_tests}
use Rattle.std.proofs.lemmas.List.Splits.{length-slice_split}
use Rattle.reh_census_file.specs.declared.faults.CensusFault.{CensusFault}
use Rattle.reh_census_file.specs.declared.faults.CensusFault.TheVariants as fault
use Rattle.reh_census_file.specs.declared.faults.Expected.TheVariants as expected
use Rattle.reh_census_file.specs.Drafts.{Draft}
use Rattle.reh_census_file.specs.Whole.{is_line_end, parts_of, text_end}
use Rattle.reh_census_file.proofs.WordLaws.{none_found}

abbrev ok : Draft → Result Draft CensusFault
ok d = Ok d

module _ (p : ℕ → Bool) where
  split_none : (text : List ℕ) → length text ≡ position_or_len p text → slice_split p text ≡ text ∷ []
  split_none [] all = refl
  split_none (b ∷ bs) all =
      elim (p b) as (λ t. suc (length bs) ≡ cond (not t) (1 + position_or_len p bs) 0 → cond t ([] ∷ slice_split p bs) (onto_first b (slice_split p bs)) ≡ (b ∷ bs) ∷ []) [
        | true ↦ λ e. absurd (omega arith)
        | false ↦ λ e. ap (onto_first b) (split_none bs (omega arith))
      ] all

  split_some : (text : List ℕ) → position_or_len p text < length text → slice_split p text ≡ take (position_or_len p text) text ∷ slice_split p (drop (position_or_len p text + 1) text)
  split_some [] within = absurd (omega arith)
  split_some (b ∷ bs) within =
      let n = position_or_len p bs in
      let one : 1 + n ≡ suc n = omega arith in
      let two : suc n + 1 ≡ suc (n + 1) = omega arith in
      elim (p b) as (λ t. cond (not t) (1 + n) 0 < suc (length bs) → cond t ([] ∷ slice_split p bs) (onto_first b (slice_split p bs)) ≡ take (cond (not t) (1 + n) 0) (b ∷ bs) ∷ slice_split p (drop (cond (not t) (1 + n) 0 + 1) (b ∷ bs))) [
        | true ↦ λ lt. refl
        | false ↦ λ lt. ap (onto_first b) (split_some bs (omega arith)) ∙ rw (one, two) refl
      ] within

  found_at : (text : List ℕ) (n : ℕ) → position p text ≡ Some n → (position_or_len p text ≡ n) × (n < length text)
  found_at text n is = grind (arith, nat_tests)

-- a text without an LF has no other part
pub parts_of-none : (text : List ℕ) → position is_line_end text ≡ None → parts_of text ≡ text ∷ []
parts_of-none text none = split_none is_line_end text (none_found is_line_end text none)

-- the first LF ends the first part
pub parts_of-some : (text : List ℕ) (n : ℕ) → position is_line_end text ≡ Some n → parts_of text ≡ take n text ∷ parts_of (take (length text - (n + 1)) (drop (n + 1) text))
parts_of-some text n is =
    let f = found_at is_line_end text n is in
    let whole : length text - (n + 1) ≡ length (drop (n + 1) text) = omega (arith, length-drop (n + 1) text) in
    split_some is_line_end text (omega arith) ∙ ap (λ k. take k text ∷ parts_of (drop (k + 1) text)) f.0
    ∙ ap (λ rest. take n text ∷ parts_of rest) (sym (ap (λ k. take k (drop (n + 1) text)) whole ∙ take-length (drop (n + 1) text)))

-- after an LF stands a part, though it may be empty
pub parts_of-some_part : (text : List ℕ) → 0 < length (parts_of text)
parts_of-some_part text = omega (arith, length-slice_split is_line_end text)

-- what isn't empty has more than an empty part
pub parts_of-more : (b : ℕ) (bs : List ℕ) (line : ℕ) (d : Draft) → text_end line d (parts_of (b ∷ bs)) ≡ Err (fault.Line line expected.NoMoreLines)
parts_of-more b bs line d =
    elim (is_line_end b) as (λ t. text_end line d (cond t ([] ∷ parts_of bs) (onto_first b (parts_of bs))) ≡ Err (fault.Line line expected.NoMoreLines)) [
      | true ↦ let some : (length (parts_of bs) == 0) ≡ false = grind (arith, nat_tests, parts_of-some_part bs) in ap (λ t. cond t (ok d) (Err (fault.Line line expected.NoMoreLines))) some
      | false ↦ first (parts_of bs)
    ]
  where
    first : (parts : List (List ℕ)) → text_end line d (onto_first b parts) ≡ Err (fault.Line line expected.NoMoreLines)
    first [] = refl
    first (part ∷ parts) = let some : (suc (length part) == 0) ≡ false = grind (arith, nat_tests) in ap (λ t. cond (t && (length parts == 0)) (ok d) (Err (fault.Line line expected.NoMoreLines))) some
